-- So many items have one spelling where each has, behind those before it; and what fits of each of them.
use Rattle.std.proofs.Common.{◌≡◌, ℕ, zero, suc, ◌<◌, true, eqb, List, [], ◌∷◌, ◌++◌, length, get_or, take, Ok, refl, sym, subst, append_assoc, arith}
use Rattle.std.specs.List.{flat_map}
use Rattle.std.proofs.lemmas.Bool.{and_parts, and_from, eq-eqb, eqb-true}
use Rattle.std.proofs.lemmas.List.{append-nil}
use Rattle.td_codec.specs.Fields.{Field, Takes, SpellsOnce}
use Rattle.td_codec.specs.Lists.{Items, ItemsSpellOnce, items_read, all_fit}
use Rattle.td_codec.proofs.FieldLaws.{le_self}
use Rattle.td_codec.proofs.ListLaws.{items_take, items_again, items_within}
use Rattle.td_block.specs.Columns.{so_many}

pub so_many_spells : {A : Type 0} (n : ℕ) (items : Items A) → ItemsSpellOnce items → SpellsOnce (so_many n items)
so_many_spells {A} n items one = record {
  takes = λ bytes x are e.
      let t = items_take items one n [] bytes x are e in
      (t.0, and_from _ _ (eq-eqb (length x.0) n t.1.0) t.1.1);
  again = λ xs rest fits.
      let f = and_parts (eqb (length xs) n) (all_fit items [] xs) fits in
      subst (λ (k : ℕ). items_read items [] k (flat_map items.spelled xs ++ rest) ≡ Ok (xs, rest)) (eqb-true (length xs) n f.0) (items_again items one xs [] rest f.1);
  within = λ bytes are. items_within items one n [] bytes (length bytes) are (le_self (length bytes));
}

-- a field whose bytes are said in another way
pub respelled : {A : Type 0} (field : Field A) (bytes_of : A → List ℕ) → ((x : A) → field.fits x ≡ true → field.spelled x ≡ bytes_of x) → SpellsOnce field
    → SpellsOnce (record { read = field.read; spelled = bytes_of; fits = field.fits })
respelled {A} field bytes_of same one = record {
  takes = λ bytes x are e. let t = one.takes bytes x are e in (subst (λ (l : List ℕ). Takes bytes l x.1) (same x.0 t.1) t.0, t.1);
  again = λ x rest fits. subst (λ (l : List ℕ). field.read (l ++ rest) ≡ Ok (x, rest)) (same x fits) (one.again x rest fits);
  within = one.within;
}

-- what fits at each place
fit_behind : {A : Type 0} (items : Items A) (before xs : List A) (i : ℕ) (d : A) → all_fit items before xs ≡ true → i < length xs → items.fits (before ++ take i xs) (get_or xs i d) ≡ true
fit_behind items before [] i d fits lt = absurd (omega (arith, lt))
fit_behind {A} items before (x ∷ xs) zero d fits lt =
    let f = and_parts (items.fits before x) (all_fit items (before ++ x ∷ []) xs) fits in
    subst (λ (l : List A). items.fits l x ≡ true) (sym (append-nil before)) f.0
fit_behind {A} items before (x ∷ xs) (suc i) d fits lt =
    let f = and_parts (items.fits before x) (all_fit items (before ++ x ∷ []) xs) fits in
    subst (λ (l : List A). items.fits l (get_or xs i d) ≡ true) (append_assoc before (x ∷ []) (take i xs)) (fit_behind items (before ++ x ∷ []) xs i d f.1 (omega (arith, lt)))

pub fit_at : {A : Type 0} (items : Items A) (xs : List A) (i : ℕ) (d : A) → all_fit items [] xs ≡ true → i < length xs → items.fits (take i xs) (get_or xs i d) ≡ true
fit_at items xs i d fits lt = fit_behind items [] xs i d fits lt

all_fit_behind : {A : Type 0} (items : Items A) (before xs : List A) (d : A) → ((i : ℕ) → i < length xs → items.fits (before ++ take i xs) (get_or xs i d) ≡ true) → all_fit items before xs ≡ true
all_fit_behind items before [] d each = refl
all_fit_behind {A} items before (x ∷ xs) d each =
    and_from (items.fits before x) (all_fit items (before ++ x ∷ []) xs)
    (subst (λ (l : List A). items.fits l x ≡ true) (append-nil before) (each 0 (omega arith)))
    (all_fit_behind items (before ++ x ∷ []) xs d
    (λ i lt. subst (λ (l : List A). items.fits l (get_or xs i d) ≡ true) (sym (append_assoc before (x ∷ []) (take i xs))) (each (suc i) (omega (arith, lt)))))

pub all_fit_from : {A : Type 0} (items : Items A) (xs : List A) (d : A) → ((i : ℕ) → i < length xs → items.fits (take i xs) (get_or xs i d) ≡ true) → all_fit items [] xs ≡ true
all_fit_from items xs d each = all_fit_behind items [] xs d each
