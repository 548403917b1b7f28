-- What a loop has told when it stops.
use Rattle.std.proofs.Common.{◌≡◌, ℕ, zero, suc, ◌≤◌, Bool, true, false, cond, List, [], ◌∷◌, ◌++◌, length, None, Result, Ok, Err, refl, sym, ap, subst, ◌∙◌, arith, append_assoc}
use Rattle.std.proofs.lemmas.List.{append-nil, length-append}
use Rattle.td_grammar.specs.declared.lexemes.Lexeme.{Lexeme}
use Rattle.td_grammar.specs.Grammar.{Kinds, begun, Begins, Passes, Reading, ◌>>=◌, starts, looped}
use Rattle.td_grammar.proofs.Tells.{peek, peek_append, begun_peek, Took, Told, Tells}

-- no text is empty
abbrev pub Solid : {A : Type 0} → (List Lexeme → A → Type 0) → Type 0
Solid {A} D = (a : A) → D [] a → ⊥

abbrev pub Loops : {S A : Type 0} → (S → List Lexeme → A → Type 0) → (S → Lexeme → Bool) → (S → A → S) → S → List Lexeme → S → Type 0
Loops {S} {A} D ok next s ts end = (each : List A) × Passes D ok next each s ts end

abbrev pub loops : {S A : Type 0} → Kinds → (S → Lexeme → Bool) → (S → A → S) → (S → List Lexeme → Reading A) → S → List Lexeme → Reading S
loops f ok next p s ts = looped f ok next p (length ts) s ts

abbrev pub turn : {S A : Type 0} → Kinds → (S → Lexeme → Bool) → (S → A → S) → (S → List Lexeme → Reading A) → S → List Lexeme → Reading S
turn f ok next p s ts = cond (starts f ts) (cond (begun (ok s) ts) (p s ts >>= λ x. loops f ok next p (next s x.0) x.1) (Err (length ts))) (Ok (s, ts))

bind_same : {A B : Type 0} (r : Result A ℕ) (f g : A → Result B ℕ) → ((x : A) → r ≡ Ok x → f x ≡ g x) → (r >>= f) ≡ (r >>= g)
bind_same (Ok x) f g h = h x refl
bind_same (Err n) f g h = refl

begun_front : (p : Lexeme → Bool) (x r : List Lexeme) → begun p (x ++ r) ≡ true → (x ≡ [] → ⊥) → begun p x ≡ true
begun_front p [] r h some = absurd (some refl)
begun_front p (t ∷ x) r h some = h

shorter : (x r : List Lexeme) → (x ≡ [] → ⊥) → suc (length r) ≤ length (x ++ r)
shorter [] r some = absurd (some refl)
shorter (t ∷ x) r some = omega (arith, length-append x r)

pub consumes : {A : Type 0} (D : List Lexeme → A → Type 0) (p : List Lexeme → Reading A) → Tells D p → Solid D → (ts : List Lexeme) (x : A × List Lexeme) → p ts ≡ Ok x → suc (length x.1) ≤ length ts
consumes {A} D p told solid ts x is =
    let h : Took D p ts x.0 x.1 = subst (λ r. Told D p ts r) is (told ts) in
    rw (h.parts) (shorter h.front x.1 (λ e. solid x.0 (subst (λ f. D f x.0) e h.derives)))

-- enough is enough
same_fuel : {S A : Type 0} (f : Kinds) (ok : S → Lexeme → Bool) (next : S → A → S) (p : S → List Lexeme → Reading A)
    → ((s : S) (ts : List Lexeme) (x : A × List Lexeme) → p s ts ≡ Ok x → suc (length x.1) ≤ length ts)
    → (n m : ℕ) (s : S) (ts : List Lexeme) → length ts ≤ n → length ts ≤ m → looped f ok next p n s ts ≡ looped f ok next p m s ts
same_fuel f ok next p eats zero zero s ts h i = refl
same_fuel f ok next p eats zero (suc m) s [] h i = refl
same_fuel f ok next p eats zero (suc m) s (t ∷ ts) h i = absurd (omega (arith, h))
same_fuel f ok next p eats (suc n) zero s [] h i = refl
same_fuel f ok next p eats (suc n) zero s (t ∷ ts) h i = absurd (omega (arith, i))
same_fuel {S} {A} f ok next p eats (suc n) (suc m) s ts h i =
    ap (λ r. cond (starts f ts) (cond (begun (ok s) ts) r (Err (length ts))) (Ok (s, ts)))
    (bind_same (p s ts) (λ x. looped f ok next p n (next s x.0) x.1) (λ x. looped f ok next p m (next s x.0) x.1)
    (λ x is. same_fuel f ok next p eats n m (next s x.0) x.1 (omega (arith, h, eats s ts x is)) (omega (arith, i, eats s ts x is))))

pub loop_turn : {S A : Type 0} (f : Kinds) (ok : S → Lexeme → Bool) (next : S → A → S) (p : S → List Lexeme → Reading A)
    → ((s : S) (ts : List Lexeme) (x : A × List Lexeme) → p s ts ≡ Ok x → suc (length x.1) ≤ length ts)
    → (s : S) (ts : List Lexeme) → loops f ok next p s ts ≡ turn f ok next p s ts
loop_turn f ok next p eats s [] = refl
loop_turn {S} {A} f ok next p eats s (t ∷ ts) =
    ap (λ r. cond (starts f (t ∷ ts)) (cond (begun (ok s) (t ∷ ts)) r (Err (length (t ∷ ts)))) (Ok (s, t ∷ ts)))
    (bind_same (p s (t ∷ ts)) (λ x. looped f ok next p (length ts) (next s x.0) x.1) (λ x. loops f ok next p (next s x.0) x.1)
    (λ x is. same_fuel f ok next p eats (length ts) (length x.1) (next s x.0) x.1 (omega (arith, eats s (t ∷ ts) x is)) (omega arith)))

pub told_loop : {S A : Type 0} (f : Kinds) (D : S → List Lexeme → A → Type 0) (ok : S → Lexeme → Bool) (next : S → A → S) (p : S → List Lexeme → Reading A)
    → ((s : S) → Tells (D s) (p s)) → ((s : S) → Solid (D s)) → (n : ℕ) (s : S) (ts : List Lexeme) → length ts ≤ n → Told (Loops D ok next s) (loops f ok next p s) ts (loops f ok next p s ts)
told_loop {S} {A} f D ok next p told solid zero s [] few = record { front = []; parts = refl; derives = ([], (refl, refl)); local = λ other same. elim other as (λ o. peek o ≡ None → loops f ok next p s o ≡ Ok (s, o)) [ [] ↦ λ _. refl | u ∷ us ↦ λ e. cc ] same }
told_loop {S} {A} f D ok next p told solid zero s (t ∷ ts) few = absurd (omega (arith, few))
told_loop {S} {A} f D ok next p told solid (suc n) s ts few =
    subst (λ r. Told (Loops D ok next s) (loops f ok next p s) ts r) (sym (step s ts))
    (elim (starts f ts) as (λ b. starts f ts ≡ b → Goal (cond b (cond (begun (ok s) ts) (p s ts >>= rest_of) (Err (length ts))) (Ok (s, ts)))) [
      | false ↦ λ over. record { front = []; parts = refl; derives = ([], (refl, refl)); local = λ other same. step s other ∙ ap (λ b. cond b (cond (begun (ok s) other) (p s other >>= rest_of) (Err (length other))) (Ok (s, other))) (begun_peek _ ts other same ∙ over) }
      | true ↦ λ on. elim (begun (ok s) ts) as (λ b. begun (ok s) ts ≡ b → Goal (cond b (p s ts >>= rest_of) (Err (length ts)))) [
        | false ↦ λ bad. record { front = []; rest = ts; parts = refl; count = refl; begins = ([], s, tt, ([], (refl, refl))); local = λ other same. step s other ∙ ap (λ b. cond b (cond (begun (ok s) other) (p s other >>= rest_of) (Err (length other))) (Ok (s, other))) (begun_peek _ ts other same ∙ on) ∙ ap (λ b. cond b (p s other >>= rest_of) (Err (length other))) (begun_peek _ ts other same ∙ bad) }
        | true ↦ λ fine. item (λ now us fewer. told_loop f D ok next p told solid n now us (omega (arith, few, fewer))) on fine (p s ts) refl (told s ts)
      ] refl
    ] refl)
  where
    eats : (s : S) (ts : List Lexeme) (x : A × List Lexeme) → p s ts ≡ Ok x → suc (length x.1) ≤ length ts
    eats s = consumes (D s) (p s) (told s) (solid s)

    step : (s : S) (ts : List Lexeme) → loops f ok next p s ts ≡ turn f ok next p s ts
    step = loop_turn f ok next p eats

    rest_of : A × List Lexeme → Reading S
    rest_of x = loops f ok next p (next s x.0) x.1

    Goal : Reading S → Type 0
    Goal r = Told (Loops D ok next s) (loops f ok next p s) ts r

    -- a turn that begins as this one does
    again : (front rest other : List Lexeme) → starts f ts ≡ true → begun (ok s) ts ≡ true → ts ≡ front ++ rest → peek other ≡ peek rest → loops f ok next p s (front ++ other) ≡ (p s (front ++ other) >>= rest_of)
    again front rest other on fine parts same =
        let alike = peek_append front rest other same ∙ ap peek (sym parts) in
        step s (front ++ other)
        ∙ ap (λ b. cond b (cond (begun (ok s) (front ++ other)) (p s (front ++ other) >>= rest_of) (Err (length (front ++ other)))) (Ok (s, front ++ other))) (begun_peek _ ts (front ++ other) alike ∙ on)
        ∙ ap (λ b. cond b (p s (front ++ other) >>= rest_of) (Err (length (front ++ other)))) (begun_peek _ ts (front ++ other) alike ∙ fine)

    some_front : (front rest : List Lexeme) (a : A) → D s front a → front ≡ [] → ⊥
    some_front front rest a d e = solid s a (subst (λ x. D s x a) e d)

    later : (on : starts f ts ≡ true) (fine : begun (ok s) ts ≡ true) (x : A × List Lexeme) → Took (D s) (p s) ts x.0 x.1 → (r : Reading S) → Told (Loops D ok next (next s x.0)) (loops f ok next p (next s x.0)) x.1 r → Goal r
    later on fine x h (Ok y) i = record {
      front = h.front ++ i.front;
      parts = h.parts ∙ ap (λ r. h.front ++ r) i.parts ∙ sym (append_assoc h.front i.front y.1);
      derives = (x.0 ∷ i.derives.0, (h.front, i.front, refl, h.derives, begun_front _ h.front x.1 (ap (begun (ok s)) (sym h.parts) ∙ fine) (some_front h.front x.1 x.0 h.derives), i.derives.1));
      local = λ other same.
          let alike = peek_append i.front y.1 other same ∙ ap peek (sym i.parts) in
          ap (loops f ok next p s) (append_assoc h.front i.front other)
          ∙ again h.front x.1 (i.front ++ other) on fine h.parts alike
          ∙ ap (λ r. r >>= rest_of) (h.local (i.front ++ other) alike)
          ∙ i.local other same;
    }
    later on fine x h (Err m) i = record {
      front = h.front ++ i.front;
      rest = i.rest;
      parts = h.parts ∙ ap (λ r. h.front ++ r) i.parts ∙ sym (append_assoc h.front i.front i.rest);
      count = i.count;
      begins = (i.begins.0, i.begins.1, i.begins.2, (x.0 ∷ i.begins.3.0, (h.front, i.front ++ i.begins.0, append_assoc h.front i.front i.begins.0, h.derives, begun_front _ h.front x.1 (ap (begun (ok s)) (sym h.parts) ∙ fine) (some_front h.front x.1 x.0 h.derives), i.begins.3.1)));
      local = λ other same.
          let alike = peek_append i.front i.rest other same ∙ ap peek (sym i.parts) in
          ap (loops f ok next p s) (append_assoc h.front i.front other)
          ∙ again h.front x.1 (i.front ++ other) on fine h.parts alike
          ∙ ap (λ r. r >>= rest_of) (h.local (i.front ++ other) alike)
          ∙ i.local other same;
    }

    viable : (front rest : List Lexeme) → begun (ok s) ts ≡ true → ts ≡ front ++ rest → Begins (D s) front → Begins (Loops D ok next s) front
    viable [] rest fine parts b = ([], s, tt, ([], (refl, refl)))
    viable (t ∷ front) rest fine parts b = (b.0, next s b.1, b.2, (b.1 ∷ [], (t ∷ (front ++ b.0), [], sym (append-nil (t ∷ (front ++ b.0))), b.3, ap (begun (ok s)) (sym parts) ∙ fine, (refl, refl))))

    item : ((now : S) (us : List Lexeme) → suc (length us) ≤ length ts → Told (Loops D ok next now) (loops f ok next p now) us (loops f ok next p now us)) → starts f ts ≡ true → begun (ok s) ts ≡ true → (r : Reading A) → p s ts ≡ r → Told (D s) (p s) ts r → Goal (r >>= rest_of)
    item deeper on fine (Ok x) is h = later on fine x h (loops f ok next p (next s x.0) x.1) (deeper (next s x.0) x.1 (eats s ts x is))
    item deeper on fine (Err m) is h = record {
      front = h.front;
      rest = h.rest;
      parts = h.parts;
      count = h.count;
      begins = viable h.front h.rest fine h.parts h.begins;
      local = λ other same. again h.front h.rest other on fine h.parts same ∙ ap (λ r. r >>= rest_of) (h.local other same);
    }
