-- What the reader has told when it stops.
use Rattle.std.proofs.Common.{◌≡◌, ℕ, Bool, true, false, cond, List, [], ◌∷◌, ◌++◌, length, Option, Some, None, Ok, Err, ◌⊎◌, inl, inr, refl, sym, ap, ◌∙◌, append_assoc}
use Rattle.td_grammar.specs.declared.lexemes.Lexeme.{Lexeme}
use Rattle.td_grammar.specs.Grammar.{real, all_real, Kinds, begun, Begins, Reading, ◌>>=◌, as_value, starts, one}

abbrev pub peek : List Lexeme → Option Lexeme
peek [] = None
peek (t ∷ ts) = Some t

pub peek_append : (x r o : List Lexeme) → peek o ≡ peek r → peek (x ++ o) ≡ peek (x ++ r)
peek_append [] r o h = h
peek_append (t ∷ x) r o h = refl

-- what is asked of the first token alone
pub begun_peek : (p : Lexeme → Bool) (r o : List Lexeme) → peek o ≡ peek r → begun p o ≡ begun p r
begun_peek p [] [] h = refl
begun_peek p [] (u ∷ o) h = cc
begun_peek p (t ∷ r) [] h = cc
begun_peek p (t ∷ r) (u ∷ o) h = let is : u ≡ t = cc in ap p is

-- It read a value: up to there the tokens are a text, and no more than the next token has been looked at.
pub record Took {A : Type 0} (D : List Lexeme → A → Type 0) (p : List Lexeme → Reading A) (ts : List Lexeme) (a : A) (rest : List Lexeme) : Type 0 where
  pub front : List Lexeme
  pub parts : ts ≡ front ++ rest
  pub derives : D front a
  pub local : (other : List Lexeme) → peek other ≡ peek rest → p (front ++ other) ≡ Ok (a, other)

-- It failed: some text begins with what stands before, and no more than the next token has been looked at.
pub record Stopped {A : Type 0} (D : List Lexeme → A → Type 0) (p : List Lexeme → Reading A) (ts : List Lexeme) (left : ℕ) : Type 0 where
  pub front : List Lexeme
  pub rest : List Lexeme
  pub parts : ts ≡ front ++ rest
  pub count : left ≡ length rest
  pub begins : Begins D front
  pub local : (other : List Lexeme) → peek other ≡ peek rest → p (front ++ other) ≡ Err (length other)

abbrev pub Told : {A : Type 0} → (List Lexeme → A → Type 0) → (List Lexeme → Reading A) → List Lexeme → Reading A → Type 0
Told D p ts (Ok x) = Took D p ts x.0 x.1
Told D p ts (Err left) = Stopped D p ts left

abbrev pub Tells : {A : Type 0} → (List Lexeme → A → Type 0) → (List Lexeme → Reading A) → Type 0
Tells D p = (ts : List Lexeme) → Told D p ts (p ts)

abbrev pub Some_text : {A : Type 0} → (List Lexeme → A → Type 0) → Type 0
Some_text {A} D = (x : List Lexeme) × (a : A) × all_real x × D x a

one_real : (w : Lexeme) → real w → all_real (w ∷ [])
one_real w r = (r, tt)

pub real_append : (x y : List Lexeme) → all_real x → all_real y → all_real (x ++ y)
real_append [] y h i = i
real_append (t ∷ x) y h i = (h.0, real_append x y h.1 i)

-- one token
abbrev pub One : {A : Type 0} → (Lexeme → Bool) → (Lexeme → A) → List Lexeme → A → Type 0
One p v ts a = (t : Lexeme) × (ts ≡ t ∷ []) × (p t ≡ true) × (a ≡ v t)

one_takes : {A : Type 0} (p : Lexeme → Bool) (v : Lexeme → A) (t : Lexeme) (ts : List Lexeme) (b : Bool) → p t ≡ b → one p v (t ∷ ts) ≡ cond b (Ok (v t, ts)) (Err (length (t ∷ ts)))
one_takes p v t ts b h = rw h refl

pub told_one : {A : Type 0} (p : Lexeme → Bool) (v : Lexeme → A) (w : Lexeme) → p w ≡ true → real w → Tells (One p v) (one p v)
told_one p v w h r [] = record { front = []; rest = []; parts = refl; count = refl; begins = (w ∷ [], v w, one_real w r, (w, refl, h, refl)); local = λ other same. elim other as (λ o. peek o ≡ None → one p v o ≡ Err (length o)) [ [] ↦ λ _. refl | u ∷ us ↦ λ e. cc ] same }
told_one {A} p v w h r (t ∷ ts) = elim (p t) as (λ b. p t ≡ b → Told (One p v) (one p v) (t ∷ ts) (cond b (Ok (v t, ts)) (Err (length (t ∷ ts))))) [
  | true ↦ λ is. record { front = t ∷ []; parts = refl; derives = (t, refl, is, refl); local = λ other same. one_takes p v t other true is }
  | false ↦ λ is. record { front = []; rest = t ∷ ts; parts = refl; count = refl; begins = (w ∷ [], v w, one_real w r, (w, refl, h, refl)); local = λ other same. stays other same is }
] refl
  where
    stays : (other : List Lexeme) → peek other ≡ Some t → p t ≡ false → one p v other ≡ Err (length other)
    stays [] e is = cc
    stays (u ∷ o) e is = let same : u ≡ t = cc in one_takes p v u o false (ap p same ∙ is)

-- a value, changed
abbrev pub Mapped : {A B : Type 0} → (A → B) → (List Lexeme → A → Type 0) → List Lexeme → B → Type 0
Mapped {A} k D ts b = (a : A) × D ts a × (b ≡ k a)

pub told_map : {A B : Type 0} (k : A → B) (D : List Lexeme → A → Type 0) (p : List Lexeme → Reading A) → Tells D p → Tells (Mapped k D) (λ ts. as_value k (p ts))
told_map {A} {B} k D p told ts = go (p ts) (told ts)
  where
    go : (r : Reading A) → Told D p ts r → Told (Mapped k D) (λ us. as_value k (p us)) ts (as_value k r)
    go (Ok x) h = record { front = h.front; parts = h.parts; derives = (x.0, h.derives, refl); local = λ other same. ap (as_value k) (h.local other same) }
    go (Err n) h = record { front = h.front; rest = h.rest; parts = h.parts; count = h.count; begins = (h.begins.0, k h.begins.1, h.begins.2, (h.begins.1, h.begins.3, refl)); local = λ other same. ap (as_value k) (h.local other same) }

-- one after the other
abbrev pub Then : {A B C : Type 0} → (A → B → C) → (List Lexeme → A → Type 0) → (A → List Lexeme → B → Type 0) → List Lexeme → C → Type 0
Then {A} {B} k D F ts c = (x y : List Lexeme) × (a : A) × (b : B) × (ts ≡ x ++ y) × D x a × F a y b × (c ≡ k a b)

abbrev pub then_reads : {A B C : Type 0} → (A → B → C) → (List Lexeme → Reading A) → (A → List Lexeme → Reading B) → List Lexeme → Reading C
then_reads k p q ts = p ts >>= λ a. as_value (k a.0) (q a.0 a.1)

pub told_then : {A B C : Type 0} (k : A → B → C) (D : List Lexeme → A → Type 0) (p : List Lexeme → Reading A) (F : A → List Lexeme → B → Type 0) (q : A → List Lexeme → Reading B)
    → Tells D p → ((a : A) → Tells (F a) (q a)) → ((a : A) → Some_text (F a)) → Tells (Then k D F) (then_reads k p q)
told_then {A} {B} {C} k D p F q toldp toldq some ts = go (p ts) (toldp ts)
  where
    second : (x : A × List Lexeme) → Took D p ts x.0 x.1 → (r : Reading B) → Told (F x.0) (q x.0) x.1 r → Told (Then k D F) (then_reads k p q) ts (as_value (k x.0) r)
    second x h (Ok y) i = record {
      front = h.front ++ i.front;
      parts = h.parts ∙ ap (λ r. h.front ++ r) i.parts ∙ sym (append_assoc h.front i.front y.1);
      derives = (h.front, i.front, x.0, y.0, refl, h.derives, i.derives, refl);
      local = λ other same.
          ap (then_reads k p q) (append_assoc h.front i.front other)
          ∙ ap (λ r. r >>= λ a. as_value (k a.0) (q a.0 a.1)) (h.local (i.front ++ other) (peek_append i.front y.1 other same ∙ ap peek (sym i.parts)))
          ∙ ap (as_value (k x.0)) (i.local other same);
    }
    second x h (Err n) i = record {
      front = h.front ++ i.front;
      rest = i.rest;
      parts = h.parts ∙ ap (λ r. h.front ++ r) i.parts ∙ sym (append_assoc h.front i.front i.rest);
      count = i.count;
      begins = (i.begins.0, k x.0 i.begins.1, i.begins.2, (h.front, i.front ++ i.begins.0, x.0, i.begins.1, append_assoc h.front i.front i.begins.0, h.derives, i.begins.3, refl));
      local = λ other same.
          ap (then_reads k p q) (append_assoc h.front i.front other)
          ∙ ap (λ r. r >>= λ a. as_value (k a.0) (q a.0 a.1)) (h.local (i.front ++ other) (peek_append i.front i.rest other same ∙ ap peek (sym i.parts)))
          ∙ ap (as_value (k x.0)) (i.local other same);
    }

    go : (r : Reading A) → Told D p ts r → Told (Then k D F) (then_reads k p q) ts (r >>= λ a. as_value (k a.0) (q a.0 a.1))
    go (Ok x) h = second x h (q x.0 x.1) (toldq x.0 x.1)
    go (Err n) h = let s = some h.begins.1 in record {
      front = h.front;
      rest = h.rest;
      parts = h.parts;
      count = h.count;
      begins = (h.begins.0 ++ s.0, k h.begins.1 s.1, real_append h.begins.0 s.0 h.begins.2 s.2, (h.front ++ h.begins.0, s.0, h.begins.1, s.1, sym (append_assoc h.front h.begins.0 s.0), h.begins.3, s.3, refl));
      local = λ other same. ap (λ r. r >>= λ a. as_value (k a.0) (q a.0 a.1)) (h.local other same);
    }

-- nothing, with a value
abbrev pub Nothing : {A : Type 0} → A → List Lexeme → A → Type 0
Nothing d ts c = (ts ≡ []) × (c ≡ d)

pub told_nothing : {A : Type 0} (d : A) → Tells (Nothing d) (λ ts. Ok (d, ts))
told_nothing d ts = record { front = []; parts = refl; derives = (refl, refl); local = λ other same. refl }

-- one of two, by the first token
abbrev pub Either : {A : Type 0} → (List Lexeme → A → Type 0) → (List Lexeme → A → Type 0) → List Lexeme → A → Type 0
Either D F ts a = D ts a ⊎ F ts a

abbrev pub chosen : {A : Type 0} → Kinds → (List Lexeme → Reading A) → (List Lexeme → Reading A) → List Lexeme → Reading A
chosen s p q ts = cond (starts s ts) (p ts) (q ts)

pub told_either : {A : Type 0} (s : Kinds) (D : List Lexeme → A → Type 0) (p : List Lexeme → Reading A) (F : List Lexeme → A → Type 0) (q : List Lexeme → Reading A)
    → Tells D p → Tells F q → Tells (Either D F) (chosen s p q)
told_either {A} s D p F q toldp toldq ts = elim (starts s ts) as (λ b. starts s ts ≡ b → Told (Either D F) (chosen s p q) ts (cond b (p ts) (q ts))) [ true ↦ λ is. left is (p ts) (toldp ts) | false ↦ λ is. right is (q ts) (toldq ts) ] refl
  where
    same_start : (front rest other : List Lexeme) → ts ≡ front ++ rest → peek other ≡ peek rest → starts s (front ++ other) ≡ starts s ts
    same_start front rest other parts same = begun_peek _ ts (front ++ other) (peek_append front rest other same ∙ ap peek (sym parts))

    left : starts s ts ≡ true → (r : Reading A) → Told D p ts r → Told (Either D F) (chosen s p q) ts r
    left is (Ok x) h = record { front = h.front; parts = h.parts; derives = inl h.derives; local = λ other same. rw (same_start h.front x.1 other h.parts same ∙ is) (h.local other same) }
    left is (Err n) h = record { front = h.front; rest = h.rest; parts = h.parts; count = h.count; begins = (h.begins.0, h.begins.1, h.begins.2, inl h.begins.3); local = λ other same. rw (same_start h.front h.rest other h.parts same ∙ is) (h.local other same) }

    right : starts s ts ≡ false → (r : Reading A) → Told F q ts r → Told (Either D F) (chosen s p q) ts r
    right is (Ok x) h = record { front = h.front; parts = h.parts; derives = inr h.derives; local = λ other same. rw (same_start h.front x.1 other h.parts same ∙ is) (h.local other same) }
    right is (Err n) h = record { front = h.front; rest = h.rest; parts = h.parts; count = h.count; begins = (h.begins.0, h.begins.1, h.begins.2, inr h.begins.3); local = λ other same. rw (same_start h.front h.rest other h.parts same ∙ is) (h.local other same) }
