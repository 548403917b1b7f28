-- Reading is exact.
use Rattle.std.proofs.Common.{◌≡◌, ℕ, suc, ◌≤◌, Bool, true, false, cond, ◌&&◌, not, List, [], ◌∷◌, ◌++◌, length, Ok, Err, refl, sym, ap, subst, ◌∙◌, arith, append_assoc, ◌⊎◌, inl, inr}
use Rattle.std.proofs.lemmas.Bool.{and_parts}
use Rattle.td_grammar.specs.declared.lexemes.Lexeme.{Lexeme}
use Rattle.td_grammar.specs.Grammar.{has, apart, fits, begun, Passes, Reading, ◌>>=◌, as_value, starts, one, G, token, valued, both, under, maybe, either, loop, Derives, nullable, first, after, good, read}
use Rattle.td_grammar.proofs.Tells.{real_append, Tells, Some_text, told_one, told_map, told_then, told_nothing, told_either}
use Rattle.td_grammar.proofs.Loops.{Solid, loops, told_loop, loop_turn, consumes}
use Rattle.td_grammar.proofs.KindSets.{or_first, or_second, has_append, starts_none, apart_from}

-- each grammar has a text
pub text_of : {E A : Type 0} (e : E) (g : G E A) → Some_text (Derives e g)
text_of e (token s p v w h r) = (w e ∷ [], v (w e), (r e, tt), (w e, refl, h e, refl))
text_of e (valued k g) = let a = text_of e g in (a.0, k a.1, a.2, (a.1, a.3, refl))
text_of e (both k g h) = let a = text_of e g in let b = text_of e h in (a.0 ++ b.0, k a.1 b.1, real_append a.0 b.0 a.2 b.2, (a.0, b.0, a.1, b.1, refl, a.3, b.3, refl))
text_of e (under k g h) = let a = text_of e g in let b = text_of a.1 h in (a.0 ++ b.0, k a.1 b.1, real_append a.0 b.0 a.2 b.2, (a.0, b.0, a.1, b.1, refl, a.3, b.3, refl))
text_of e (maybe d k g) = ([], d, tt, inr (refl, refl))
text_of e (either g h) = let a = text_of e g in (a.0, a.1, a.2, inl a.3)
text_of e (loop s ok next g) = ([], s, tt, ([], (refl, refl)))

no_parts : (x y : List Lexeme) → [] ≡ x ++ y → (x ≡ []) × (y ≡ [])
no_parts [] y h = (refl, sym h)
no_parts (t ∷ x) y h = cc

-- an empty text is one of what may be empty
pub null_of : {E A : Type 0} (e : E) (g : G E A) (a : A) → Derives e g [] a → nullable g ≡ true
null_of e (token s p v w h r) a (t, is, _, _) = cc
null_of e (valued k g) c (a, d, value) = null_of e g a d
null_of e (both k g h) c (x, y, a, b, is, d, f, _) =
    let n = no_parts x y is in
    let l : nullable g ≡ true = null_of e g a (subst (λ u. Derives e g u a) n.0 d) in
    let r : nullable h ≡ true = null_of e h b (subst (λ u. Derives e h u b) n.1 f) in
    rw (l, r) refl
null_of e (under k g h) c (x, y, a, b, is, d, f, _) =
    let n = no_parts x y is in
    let l : nullable g ≡ true = null_of e g a (subst (λ u. Derives e g u a) n.0 d) in
    let r : nullable h ≡ true = null_of a h b (subst (λ u. Derives a h u b) n.1 f) in
    rw (l, r) refl
null_of e (maybe d k g) c _ = refl
null_of e (either g h) a (inl d) = or_first (nullable g) (nullable h) (null_of e g a d)
null_of e (either g h) a (inr d) = or_second (nullable g) (nullable h) (null_of e h a d)
null_of e (loop s ok next g) a _ = refl

not_true : (b : Bool) → not b ≡ true → b ≡ true → ⊥
not_true true h i = cc
not_true false h i = cc

pub solid_of : {E A : Type 0} (e : E) (g : G E A) → not (nullable g) ≡ true → Solid (Derives e g)
solid_of e g h a d = not_true (nullable g) h (null_of e g a d)

-- what the reader has told of each grammar
pub told : {E A : Type 0} (e : E) (g : G E A) → good g ≡ true → Tells (Derives e g) (read e g)
told e (token s p v w h r) ok = told_one (fits s (p e)) v (w e) (h e) (r e)
told e (valued k g) ok = told_map k (λ x a. Derives e g x a) (λ ts. read e g ts) (told e g ok)
told e (both {E} {A} {B} k g h) ok =
    let o = and_parts (good g && good h) (apart (after g) (first h)) ok in
    let q = and_parts (good g) (good h) o.0 in
    told_then k (λ x a. Derives e g x a) (λ ts. read e g ts) (λ a x b. Derives e h x b) (λ a ts. read e h ts) (told e g q.0) (λ a. told e h q.1) (λ a. text_of e h)
told e (under {E} {A} {B} k g h) ok =
    let o = and_parts (good g && good h) (apart (after g) (first h)) ok in
    let q = and_parts (good g) (good h) o.0 in
    told_then k (λ x a. Derives e g x a) (λ ts. read e g ts) (λ a x b. Derives a h x b) (λ a ts. read a h ts) (told e g q.0) (λ a. told a h q.1) (λ a. text_of a h)
told e (maybe {E} {A} {C} d k g) ok =
    let q = and_parts (good g) (not (nullable g)) ok in
    told_either (first g) _ (λ ts. as_value k (read e g ts)) _ (λ ts. Ok (d, ts)) (told_map k (λ x a. Derives e g x a) (λ ts. read e g ts) (told e g q.0)) (told_nothing d)
told e (either g h) ok =
    let o = and_parts (good g && good h && not (nullable g) && not (nullable h)) (apart (first g) (first h)) ok in
    let p = and_parts (good g && good h && not (nullable g)) (not (nullable h)) o.0 in
    let r = and_parts (good g && good h) (not (nullable g)) p.0 in
    let q = and_parts (good g) (good h) r.0 in
    told_either (first g) (λ x a. Derives e g x a) (λ ts. read e g ts) (λ x a. Derives e h x a) (λ ts. read e h ts) (told e g q.0) (told e h q.1)
told e (loop s fit next g) ok =
    let o = and_parts (good g && not (nullable g)) (apart (after g) (first g)) ok in
    let q = and_parts (good g) (not (nullable g)) o.0 in
    λ ts. told_loop (first g) (λ now x a. Derives e g x a) fit next (λ now us. read e g us) (λ now. told e g q.0) (λ now. solid_of e g q.1) (length ts) s ts (omega arith)

-- a text begins with one of the first kinds
first_in : (x y : List Lexeme) (t : Lexeme) (ts : List Lexeme) → t ∷ ts ≡ x ++ y → ((x ≡ []) × (y ≡ t ∷ ts)) ⊎ ((more : List Lexeme) × (x ≡ t ∷ more))
first_in [] y t ts h = inl (refl, sym h)
first_in (u ∷ x) y t ts h = let is : u ≡ t = cc in inr (x, ap (λ v. v ∷ x) is)

then_first : {E A F B : Type 0} (g : G E A) (h : G F B) (k : ℕ) → (n : Bool) → nullable g ≡ n → ((n ≡ true) × (has k (first h) ≡ true)) ⊎ (has k (first g) ≡ true) → has k (first g ++ cond n (first h) []) ≡ true
then_first g h k true is (inl m) = has_append k (first g) (first h) ∙ or_second (has k (first g)) (has k (first h)) m.1
then_first g h k false is (inl m) = let no_way = m.0 in cc
then_first g h k n is (inr m) = has_append k (first g) (cond n (first h) []) ∙ or_first (has k (first g)) (has k (cond n (first h) [])) m

pub first_of : {E A : Type 0} (e : E) (g : G E A) (t : Lexeme) (ts : List Lexeme) (a : A) → good g ≡ true → Derives e g (t ∷ ts) a → has t.kind (first g) ≡ true
first_of e (token s p v w h r) t ts a ok (u, is, fit, _) =
    let same : t ≡ u = cc in
    (and_parts (has t.kind s) (p e t) (ap (λ x. fits s (p e) x) same ∙ fit)).0
first_of e (valued k g) t ts c ok (a, d, value) = first_of e g t ts a ok d
first_of e (both k g h) t ts c ok (x, y, a, b, is, d, f, _) =
    let o = and_parts (good g && good h) (apart (after g) (first h)) ok in
    let q = and_parts (good g) (good h) o.0 in
    then_first g h t.kind (nullable g) refl (elim (first_in x y t ts is) [
      | inl m ↦ inl (null_of e g a (subst (λ u. Derives e g u a) m.0 d), first_of e h t ts b q.1 (subst (λ u. Derives e h u b) m.1 f))
      | inr m ↦ inr (first_of e g t m.0 a q.0 (subst (λ u. Derives e g u a) m.1 d))
    ])
first_of e (under k g h) t ts c ok (x, y, a, b, is, d, f, _) =
    let o = and_parts (good g && good h) (apart (after g) (first h)) ok in
    let q = and_parts (good g) (good h) o.0 in
    then_first g h t.kind (nullable g) refl (elim (first_in x y t ts is) [
      | inl m ↦ inl (null_of e g a (subst (λ u. Derives e g u a) m.0 d), first_of a h t ts b q.1 (subst (λ u. Derives a h u b) m.1 f))
      | inr m ↦ inr (first_of e g t m.0 a q.0 (subst (λ u. Derives e g u a) m.1 d))
    ])
first_of e (maybe d k g) t ts c ok (inl m) = first_of e g t ts m.0 (and_parts (good g) (not (nullable g)) ok).0 m.1
first_of e (maybe d k g) t ts c ok (inr m) = let impossible = m.0 in cc
first_of e (either g h) t ts a ok (inl m) =
    let o = and_parts (good g && good h && not (nullable g) && not (nullable h)) (apart (first g) (first h)) ok in
    let p = and_parts (good g && good h && not (nullable g)) (not (nullable h)) o.0 in
    let q = and_parts (good g) (good h) (and_parts (good g && good h) (not (nullable g)) p.0).0 in
    has_append t.kind (first g) (first h) ∙ or_first (has t.kind (first g)) (has t.kind (first h)) (first_of e g t ts a q.0 m)
first_of e (either g h) t ts a ok (inr m) =
    let o = and_parts (good g && good h && not (nullable g) && not (nullable h)) (apart (first g) (first h)) ok in
    let p = and_parts (good g && good h && not (nullable g)) (not (nullable h)) o.0 in
    let q = and_parts (good g) (good h) (and_parts (good g && good h) (not (nullable g)) p.0).0 in
    has_append t.kind (first g) (first h) ∙ or_second (has t.kind (first g)) (has t.kind (first h)) (first_of e h t ts a q.1 m)
first_of e (loop s fit next g) t ts end ok ([], m) = let impossible = m.0 in cc
first_of e (loop s fit next g) t ts end ok (a ∷ more, (x, y, is, d, _, _)) =
    let o = and_parts (good g && not (nullable g)) (apart (after g) (first g)) ok in
    let q = and_parts (good g) (not (nullable g)) o.0 in
    elim (first_in x y t ts is) [
      | inl m ↦ absurd (solid_of e g q.1 a (subst (λ u. Derives e g u a) m.0 d))
      | inr m ↦ first_of e g t m.0 a q.0 (subst (λ u. Derives e g u a) m.1 d)
    ]

-- what follows the first part can't go on with it
follow_on : {E A F B : Type 0} (g : G E A) (e : F) (h : G F B) (y rest : List Lexeme) (b : B) → good h ≡ true → apart (after g) (first h) ≡ true → Derives e h y b → starts (after h ++ cond (nullable h) (after g ++ first h) []) rest ≡ false → starts (after g) (y ++ rest) ≡ false
follow_on g e h [] rest b ok far d out =
    let all : starts (after h ++ (after g ++ first h)) rest ≡ false = subst (λ n. starts (after h ++ cond n (after g ++ first h) []) rest ≡ false) (null_of e h b d) out in
    (starts_none (after g) (first h) rest (starts_none (after h) (after g ++ first h) rest all).1).0
follow_on g e h (t ∷ y) rest b ok far d out = apart_from (after g) (first h) t.kind far (first_of e h t y b ok d)

starts_within : {E A : Type 0} (e : E) (g : G E A) (x rest : List Lexeme) (a : A) → good g ≡ true → not (nullable g) ≡ true → Derives e g x a → starts (first g) (x ++ rest) ≡ true
starts_within e g [] rest a ok some d = absurd (solid_of e g some a d)
starts_within e g (t ∷ x) rest a ok some d = first_of e g t x a ok d

-- no item of a loop goes on with what follows it there
follow_item : {E S A : Type 0} (e : E) (s : S) (fit : S → Lexeme → Bool) (next : S → A → S) (g : G E A) (each : List A) (y rest : List Lexeme) (end : S) → good g ≡ true → not (nullable g) ≡ true → apart (after g) (first g) ≡ true
    → Passes (λ now x a. Derives e g x a) fit next each s y end → starts (first g ++ after g) rest ≡ false → starts (after g) (y ++ rest) ≡ false
follow_item e s fit next g [] y rest end ok some far d out = rw d.0 (starts_none (first g) (after g) rest out).1
follow_item e s fit next g (a ∷ each) y rest end ok some far (u, v, is, d, _, _) out = go u v is d
  where
    go : (u v : List Lexeme) → y ≡ u ++ v → Derives e g u a → starts (after g) (y ++ rest) ≡ false
    go [] v is d = absurd (solid_of e g some a d)
    go (t ∷ u) v is d = rw is (apart_from (after g) (first g) t.kind far (first_of e g t u a ok d))

begun_more : (p : Lexeme → Bool) (x rest : List Lexeme) → begun p x ≡ true → begun p (x ++ rest) ≡ true
begun_more p [] rest h = cc
begun_more p (t ∷ x) rest h = h

pub eats_of : {E A : Type 0} (e : E) (g : G E A) → good g ≡ true → not (nullable g) ≡ true → (ts : List Lexeme) (x : A × List Lexeme) → read e g ts ≡ Ok x → suc (length x.1) ≤ length ts
eats_of e g ok some = consumes (λ x a. Derives e g x a) (λ ts. read e g ts) (told e g ok) (solid_of e g some)

-- A text is read whole, with its value, where nothing follows that may go on with it.
pub full : {E A : Type 0} (e : E) (g : G E A) (x rest : List Lexeme) (a : A) → good g ≡ true → Derives e g x a → starts (after g) rest ≡ false → read e g (x ++ rest) ≡ Ok (a, rest)
full e (token s p v w h r) x rest a ok (t, is, fit, value) out = ap (λ u. one (fits s (p e)) v (u ++ rest)) is ∙ ap (λ b. cond b (Ok (v t, rest)) (Err (length (t ∷ rest)))) fit ∙ ap (λ u. Ok (u, rest)) (sym value)
full e (valued k g) x rest c ok (a, d, value) out = ap (as_value k) (full e g x rest a ok d out) ∙ ap (λ u. Ok (u, rest)) (sym value)
full e (both k g h) ts rest c ok (x, y, a, b, is, d, f, value) out =
    let o = and_parts (good g && good h) (apart (after g) (first h)) ok in
    let q = and_parts (good g) (good h) o.0 in
    ap (λ u. read e g (u ++ rest) >>= λ a. as_value (k a.0) (read e h a.1)) is
    ∙ ap (λ u. read e g u >>= λ a. as_value (k a.0) (read e h a.1)) (append_assoc x y rest)
    ∙ ap (λ r. r >>= λ a. as_value (k a.0) (read e h a.1)) (full e g x (y ++ rest) a q.0 d (follow_on g e h y rest b q.1 o.1 f out))
    ∙ ap (as_value (k a)) (full e h y rest b q.1 f (starts_none (after h) (cond (nullable h) (after g ++ first h) []) rest out).0)
    ∙ ap (λ u. Ok (u, rest)) (sym value)
full e (under k g h) ts rest c ok (x, y, a, b, is, d, f, value) out =
    let o = and_parts (good g && good h) (apart (after g) (first h)) ok in
    let q = and_parts (good g) (good h) o.0 in
    ap (λ u. read e g (u ++ rest) >>= λ a. as_value (k a.0) (read a.0 h a.1)) is
    ∙ ap (λ u. read e g u >>= λ a. as_value (k a.0) (read a.0 h a.1)) (append_assoc x y rest)
    ∙ ap (λ r. r >>= λ a. as_value (k a.0) (read a.0 h a.1)) (full e g x (y ++ rest) a q.0 d (follow_on g a h y rest b q.1 o.1 f out))
    ∙ ap (as_value (k a)) (full a h y rest b q.1 f (starts_none (after h) (cond (nullable h) (after g ++ first h) []) rest out).0)
    ∙ ap (λ u. Ok (u, rest)) (sym value)
full e (maybe d k g) x rest c ok (inl (a, m, value)) out =
    let q = and_parts (good g) (not (nullable g)) ok in
    ap (λ b. cond b (as_value k (read e g (x ++ rest))) (Ok (d, x ++ rest))) (starts_within e g x rest a q.0 q.1 m)
    ∙ ap (as_value k) (full e g x rest a q.0 m (starts_none (first g) (after g) rest out).1)
    ∙ ap (λ u. Ok (u, rest)) (sym value)
full e (maybe d k g) x rest c ok (inr (is, value)) out =
    ap (λ u. cond (starts (first g) (u ++ rest)) (as_value k (read e g (u ++ rest))) (Ok (d, u ++ rest))) is
    ∙ ap (λ b. cond b (as_value k (read e g rest)) (Ok (d, rest))) (starts_none (first g) (after g) rest out).0
    ∙ ap (λ u. Ok (u, rest)) (sym value)
full e (either g h) x rest a ok (inl m) out =
    let o = and_parts (good g && good h && not (nullable g) && not (nullable h)) (apart (first g) (first h)) ok in
    let p = and_parts (good g && good h && not (nullable g)) (not (nullable h)) o.0 in
    let r = and_parts (good g && good h) (not (nullable g)) p.0 in
    let q = and_parts (good g) (good h) r.0 in
    ap (λ b. cond b (read e g (x ++ rest)) (read e h (x ++ rest))) (starts_within e g x rest a q.0 r.1 m)
    ∙ full e g x rest a q.0 m (starts_none (after g) (after h) rest out).0
full e (either g h) [] rest a ok (inr m) out =
    let o = and_parts (good g && good h && not (nullable g) && not (nullable h)) (apart (first g) (first h)) ok in
    let p = and_parts (good g && good h && not (nullable g)) (not (nullable h)) o.0 in
    absurd (solid_of e h p.1 a m)
full e (either g h) (t ∷ x) rest a ok (inr m) out =
    let o = and_parts (good g && good h && not (nullable g) && not (nullable h)) (apart (first g) (first h)) ok in
    let p = and_parts (good g && good h && not (nullable g)) (not (nullable h)) o.0 in
    let r = and_parts (good g && good h) (not (nullable g)) p.0 in
    let q = and_parts (good g) (good h) r.0 in
    ap (λ b. cond b (read e g (t ∷ (x ++ rest))) (read e h (t ∷ (x ++ rest)))) (apart_from (first g) (first h) t.kind o.1 (first_of e h t x a q.1 m))
    ∙ full e h (t ∷ x) rest a q.1 m (starts_none (after g) (after h) rest out).1
full e (loop {E} {S} {A} s fit next g) x rest end ok (each, m) out =
    let o = and_parts (good g && not (nullable g)) (apart (after g) (first g)) ok in
    let q = and_parts (good g) (not (nullable g)) o.0 in
    go q.0 q.1 o.1 (λ x rest a d out. full e g x rest a q.0 d out) each s x m
  where
    run : S → List Lexeme → Reading S
    run now us = loops (first g) fit next (λ now us. read e g us) now us

    go : good g ≡ true → not (nullable g) ≡ true → apart (after g) (first g) ≡ true → ((x rest : List Lexeme) (a : A) → Derives e g x a → starts (after g) rest ≡ false → read e g (x ++ rest) ≡ Ok (a, rest)) → (each : List A) (s : S) (x : List Lexeme) → Passes (λ now x a. Derives e g x a) fit next each s x end → run s (x ++ rest) ≡ Ok (end, rest)
    go good1 some far item [] s x (is, value) =
        ap (λ u. run s (u ++ rest)) is
        ∙ loop_turn (first g) fit next (λ now us. read e g us) (λ now. eats_of e g good1 some) s rest
        ∙ ap (λ b. cond b (cond (begun (fit s) rest) (read e g rest >>= λ x. run (next s x.0) x.1) (Err (length rest))) (Ok (s, rest))) (starts_none (first g) (after g) rest out).0
        ∙ ap (λ u. Ok (u, rest)) (sym value)
    go good1 some far item (a ∷ each) s x (u, v, is, d, fine, more) =
        ap (λ w. run s (w ++ rest)) is
        ∙ ap (run s) (append_assoc u v rest)
        ∙ loop_turn (first g) fit next (λ now us. read e g us) (λ now. eats_of e g good1 some) s (u ++ (v ++ rest))
        ∙ ap (λ b. cond b (cond (begun (fit s) (u ++ (v ++ rest))) (read e g (u ++ (v ++ rest)) >>= λ x. run (next s x.0) x.1) (Err (length (u ++ (v ++ rest))))) (Ok (s, u ++ (v ++ rest)))) (starts_within e g u (v ++ rest) a good1 some d)
        ∙ ap (λ b. cond b (read e g (u ++ (v ++ rest)) >>= λ x. run (next s x.0) x.1) (Err (length (u ++ (v ++ rest))))) (begun_more (fit s) u (v ++ rest) fine)
        ∙ ap (λ r. r >>= λ x. run (next s x.0) x.1) (item u (v ++ rest) a d (follow_item e (next s a) fit next g each v rest end good1 some far more out))
        ∙ go good1 some far item each (next s a) v more
