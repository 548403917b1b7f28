-- The tables of a plan one by one, and rows put one after another.
use Rattle.std.proofs.Common.{◌≡◌, ℕ, zero, suc, ◌+◌, ◌≤◌, List, [], ◌∷◌, ◌++◌, drop, length, Option, Some, None, refl, sym, ap, ◌∙◌, add-one, arith}
use Rattle.std.specs.List.{slice_get, flat_map}
use Rattle.td_layer.specs.declared.values.Cell.{Cell}
use Rattle.td_verdict.specs.Answers.{Found, time_cmp, put_in_time}
use Rattle.std.specs.BTreeMap.{insert_entry}
use Rattle.td_answer.specs.Picks.{listed_by, tables_from}

unnamed : (n : Option ℕ) (tags : Option (List Cell)) → None ≡ listed_by n None tags
unnamed None tags = refl
unnamed (Some n) tags = refl

untagged : (n : Option ℕ) (name : Option (List ℕ)) → None ≡ listed_by n name None
untagged None name = refl
untagged (Some n) None = refl
untagged (Some n) (Some name) = refl

pub get_listed : (at : ℕ) (ns : List ℕ) (names : List (List ℕ)) (tags : List (List Cell)) → slice_get (tables_from ns names tags) at ≡ listed_by (slice_get ns at) (slice_get names at) (slice_get tags at)
get_listed at [] names tags = refl
get_listed zero (n ∷ ns) [] tags = refl
get_listed (suc at) (n ∷ ns) [] tags = unnamed (slice_get ns at) (slice_get tags (suc at))
get_listed zero (n ∷ ns) (name ∷ names) [] = refl
get_listed (suc at) (n ∷ ns) (name ∷ names) [] = untagged (slice_get ns at) (slice_get names at)
get_listed zero (n ∷ ns) (name ∷ names) (cells ∷ tags) = refl
get_listed (suc at) (n ∷ ns) (name ∷ names) (cells ∷ tags) = get_listed at ns names tags

-- beyond the numbers there is no table
pub no_more : (at : ℕ) (ns : List ℕ) (names : List (List ℕ)) (tags : List (List Cell)) → length ns ≤ at → drop at (tables_from ns names tags) ≡ []
no_more zero [] names tags h = refl
no_more (suc at) [] names tags h = refl
no_more zero (n ∷ ns) names tags h = absurd (omega arith)
no_more (suc at) (n ∷ ns) [] tags h = refl
no_more (suc at) (n ∷ ns) (name ∷ names) [] h = refl
no_more (suc at) (n ∷ ns) (name ∷ names) (cells ∷ tags) h = no_more at ns names tags (omega arith)

-- ---- rows put one after another
put_append : (found es fs : Found) → put_in_time found (es ++ fs) ≡ put_in_time (put_in_time found es) fs
put_append found [] fs = refl
put_append found (e ∷ es) fs = put_append (insert_entry time_cmp found e.0 e.1) es fs

drop_at : {X : Type 0} (xs : List X) (at : ℕ) (x : X) → slice_get xs at ≡ Some x → drop at xs ≡ x ∷ drop (suc at) xs
drop_at [] at x h = absurd (cc)
drop_at (y ∷ xs) zero x h = let e : y ≡ x = cc in ap (λ z. z ∷ xs) e
drop_at (y ∷ xs) (suc at) x h = drop_at xs at x h

drop_past : {X : Type 0} (xs : List X) (at : ℕ) → slice_get xs at ≡ None → drop (suc at) xs ≡ drop at xs
drop_past [] zero h = refl
drop_past [] (suc at) h = refl
drop_past (y ∷ xs) zero h = absurd (cc)
drop_past (y ∷ xs) (suc at) h = drop_past xs at h

-- a table's rows are put, and those of the tables after it are left, or there is no such table
module _ {X : Type 0} (f : X → Found) (xs : List X) (at : ℕ) (found all : Found) (so_far : put_in_time found (flat_map f (drop at xs)) ≡ all) where
  pub put_next : (x : X) (next : Found) → slice_get xs at ≡ Some x → next ≡ put_in_time found (f x) → put_in_time next (flat_map f (drop (at + 1) xs)) ≡ all
  put_next x next h put =
      ap (λ n. put_in_time next (flat_map f (drop n xs))) (add-one at)
      ∙ ap (λ es. put_in_time es (flat_map f (drop (suc at) xs))) put
      ∙ sym (put_append found (f x) (flat_map f (drop (suc at) xs)))
      ∙ ap (λ ys. put_in_time found (flat_map f ys)) (sym (drop_at xs at x h))
      ∙ so_far

  pub put_none : (next : Found) → slice_get xs at ≡ None → next ≡ found → put_in_time next (flat_map f (drop (at + 1) xs)) ≡ all
  put_none next h same =
      ap (λ n. put_in_time next (flat_map f (drop n xs))) (add-one at)
      ∙ ap (λ es. put_in_time es (flat_map f (drop (suc at) xs))) same
      ∙ ap (λ ys. put_in_time found (flat_map f ys)) (drop_past xs at h)
      ∙ so_far
