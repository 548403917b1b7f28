-- Sets of numbers as lists, and the head of a store without one.
use Rattle.std.proofs.Common.{◌≡◌, ℕ, zero, suc, ◌+◌, ◌<◌, ◌||◌, Bool, true, false, cond, eqb, List, [], ◌∷◌, ◌++◌, length, get_or, take, refl, sym, ap, subst, ◌∙◌, arith}
use Rattle.std.specs.Prelude.{nat_eq, slice_index_or}
use Rattle.std.specs.List.{list_any}
use Rattle.std.proofs.lemmas.Bool.{eqb-true, eq-eqb, or_left, or_right}
use Rattle.std.proofs.lemmas.List.Folds.{list_any-append, list_any_more}
use Rattle.indexmap.specs.IndexSet.{insert_key}
use Rattle.td_outside.specs.Files.{lists}
use Rattle.td_manifest.specs.Heads.{start_field, objects_field, stables_field, tables_field, sets_field, streams_field, head_body}
use Rattle.td_manifest.specs.States.{empty_head}

pub index_is : (xs : List ℕ) (i : ℕ) → i < length xs → slice_index_or xs i 0 ≡ get_or xs i (slice_index_or xs i 0)
index_is [] i lt = absurd (omega (arith, lt))
index_is (x ∷ xs) zero lt = refl
index_is (x ∷ xs) (suc i) lt = index_is xs i (omega (arith, lt))

-- a test of equality reads either way
eqb_turned : (a b : ℕ) → eqb a b ≡ eqb b a
eqb_turned a b = by (eqb a b) (eqb b a) refl refl
  where
    by : (p q : Bool) → eqb a b ≡ p → eqb b a ≡ q → p ≡ q
    by true true e f = refl
    by true false e f = sym (eq-eqb b a (sym (eqb-true a b e))) ∙ f
    by false true e f = sym e ∙ eq-eqb a b (sym (eqb-true b a f))
    by false false e f = refl

pub keys_list : (n : ℕ) (xs : List ℕ) → list_any (nat_eq n) xs ≡ lists n xs
keys_list n [] = refl
keys_list n (x ∷ xs) = ap (λ (b : Bool). b || list_any (nat_eq n) xs) (eqb_turned n x) ∙ ap (λ (b : Bool). eqb x n || b) (keys_list n xs)

or_none : (b : Bool) → (b || false) ≡ b
or_none true = refl
or_none false = refl

kept_or_more : (m n : ℕ) (before : List ℕ) (b : Bool) → list_any (nat_eq n) before ≡ b → lists m (cond b before (before ++ n ∷ [])) ≡ (lists m before || eqb n m)
kept_or_more m n before false e = list_any-append (λ (k : ℕ). eqb k m) before (n ∷ []) ∙ ap (λ (x : Bool). lists m before || x) (or_none (eqb n m))
kept_or_more m n before true e = by (eqb n m) refl
  where
    by : (b : Bool) → eqb n m ≡ b → lists m before ≡ (lists m before || b)
    by false f = sym (or_none (lists m before))
    by true f =
        let here : lists m before ≡ true = subst (λ (k : ℕ). lists k before ≡ true) (eqb-true n m f) (sym (keys_list n before) ∙ e) in
        here ∙ sym (or_right (lists m before) true refl)

pub numbers_more : (numbers before after : List ℕ) (i n : ℕ) → i < length numbers → n ≡ get_or numbers i n
    → ((m : ℕ) → lists m before ≡ lists m (take i numbers)) → after ≡ insert_key nat_eq before n → (m : ℕ) → lists m after ≡ lists m (take (i + 1) numbers)
numbers_more numbers before after i n within is so_far more m =
    ap (λ (l : List ℕ). lists m l) more ∙ kept_or_more m n before (list_any (nat_eq n) before) refl
    ∙ ap (λ (b : Bool). b || eqb n m) (so_far m) ∙ ap (λ (k : ℕ). lists m (take i numbers) || eqb k m) is
    ∙ sym (list_any_more (λ (k : ℕ). eqb k m) numbers i n within)

pub empty_fits : head_body.fits empty_head ≡ true
unfolding head_body start_field objects_field stables_field tables_field sets_field streams_field
empty_fits = refl
