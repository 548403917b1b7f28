-- The numbers that were found, once in order, are the filter of all subtables.
use Rattle.std.proofs.Common.{◌≡◌, ℕ, ◌+◌, true, false, cond, List, [], ◌∷◌, ◌++◌, map, filter, sum_by, Option, Some, None, IsPermutation, IsSorted, IsSortedByKey, refl, sym, ap, subst, ◌∙◌, arith}
use Rattle.std.specs.Ordering.{nat_cmp}
use Rattle.std.proofs.lemmas.List.{map-id}
use Rattle.std.proofs.lemmas.List.Sums.{sum_by_push}
use Rattle.std.proofs.lemmas.List.Sorted.{sum_by-IsPermutation, IsNonDecreasingBy-from_sort}
use Rattle.td_layer.specs.declared.values.Cell.{Cell}
use Rattle.td_model.specs.declared.language.Op.{Op}
use Rattle.td_model.specs.Tags.{tag_matches, matching}
use Rattle.td_tagidx.specs.declared.index.Subtable.{Subtable}
use Rattle.td_tagidx.specs.Indexed.{Subtables, IsAbsent, with_subtable}
use Rattle.td_tagidx.specs.Subtables.{subtable_of}
use Rattle.td_tagidx.specs.Slots.{HasSame}
use Rattle.td_tagidx.specs.Inside.{with_last}
use Rattle.td_tagidx.proofs.Bags.{sum-map, sum-filter, sum-put, Rises, rises_by, rises_filter, rises_put, same_rising}

numbers_of : (subtables : List Subtable) → map (λ s. s.0) (map subtable_of subtables) ≡ map (λ s. s.table) subtables
numbers_of [] = refl
numbers_of (s ∷ subtables) = ap (λ r. s.table ∷ r) (numbers_of subtables)

rises_filed : (subtables : List Subtable) → IsSortedByKey (λ s. s.table) nat_cmp subtables → Rises (map (λ s. s.0) (map subtable_of subtables))
rises_filed subtables h = subst Rises (sym (numbers_of subtables)) (rises_by (λ s. s.table) subtables (IsNonDecreasingBy-from_sort (λ s. s.table) subtables h))

rises_all : (last : Option Subtable) (subtables : List Subtable) → IsSortedByKey (λ s. s.table) nat_cmp subtables → Rises (map (λ s. s.0) (with_last last (map subtable_of subtables)))
rises_all None subtables h = rises_filed subtables h
rises_all (Some s) subtables h = rises_put s.table s.tags (map subtable_of subtables) (rises_filed subtables h)

module _ (tag : ℕ) (p : Op) (lit : Cell) where
  sum_entries : (f : ℕ → ℕ) (es : Subtables) → sum_by f (matching tag p lit es) ≡ sum_by (λ e. cond (tag_matches tag p lit e.1) (f e.0) 0) es
  sum_entries f es =
      sum-map f (λ (e : ℕ × List Cell). e.0) (filter (λ e. tag_matches tag p lit e.1) es)
      ∙ sum-filter (λ (e : ℕ × List Cell). f e.0) (λ e. tag_matches tag p lit e.1) es

  -- what the last subtable adds to a sum
  pub last_adds : (s : Subtable) (es : Subtables) → IsAbsent s.table es → (f : ℕ → ℕ) → sum_by f (matching tag p lit (with_subtable (subtable_of s) es)) ≡ cond (tag_matches tag p lit s.tags) (f s.table) 0 + sum_by f (matching tag p lit es)
  last_adds s es absent f =
      sum_entries f (with_subtable (subtable_of s) es)
      ∙ sum-put s.table s.tags (λ e. cond (tag_matches tag p lit e.1) (f e.0) 0) es absent
      ∙ ap (λ n. cond (tag_matches tag p lit s.tags) (f s.table) 0 + n) (sym (sum_entries f es))

  pub in_order : (last : Option Subtable) (subtables : List Subtable) → IsSortedByKey (λ s. s.table) nat_cmp subtables → (numbers sorted : List ℕ) → HasSame numbers (matching tag p lit (with_last last (map subtable_of subtables))) → IsPermutation numbers sorted → IsSorted nat_cmp sorted → sorted ≡ matching tag p lit (with_last last (map subtable_of subtables))
  in_order last subtables numbered numbers sorted same moved up =
      let es : Subtables = with_last last (map subtable_of subtables) in
      same_rising sorted (matching tag p lit es)
      (subst Rises (map-id sorted) (rises_by (λ x. x) sorted (IsNonDecreasingBy-from_sort (λ x. x) sorted up)))
      (rises_filter (λ (e : ℕ × List Cell). e.0) (λ e. tag_matches tag p lit e.1) es (rises_all last subtables numbered))
      (λ f. sum_by-IsPermutation f numbers sorted moved ∙ same f)

  -- the last subtable passes, doesn't pass, or there is none
  module _ (last : Option Subtable) (es : Subtables) (xs : List ℕ) (same : HasSame xs (matching tag p lit es)) where
    pub same_added : (s : Subtable) → last ≡ Some s → IsAbsent s.table es → tag_matches tag p lit s.tags ≡ true → HasSame (xs ++ s.table ∷ []) (matching tag p lit (with_last last es))
    same_added s is absent passes = λ f.
        let old : sum_by f xs ≡ sum_by f (matching tag p lit es) = same f in
        let one : cond (tag_matches tag p lit s.tags) (f s.table) 0 ≡ f s.table = ap (λ b. cond b (f s.table) 0) passes in
        let new : sum_by f (matching tag p lit (with_last last es)) ≡ sum_by f (matching tag p lit (with_subtable (subtable_of s) es)) = ap (λ o. sum_by f (matching tag p lit (with_last o es))) is in
        let adds = last_adds s es absent f in
        let push = sum_by_push f xs s.table in
        omega arith

    pub same_left : (s : Subtable) → last ≡ Some s → IsAbsent s.table es → tag_matches tag p lit s.tags ≡ false → HasSame xs (matching tag p lit (with_last last es))
    same_left s is absent fails = λ f.
        let old : sum_by f xs ≡ sum_by f (matching tag p lit es) = same f in
        let one : cond (tag_matches tag p lit s.tags) (f s.table) 0 ≡ 0 = ap (λ b. cond b (f s.table) 0) fails in
        let new : sum_by f (matching tag p lit (with_last last es)) ≡ sum_by f (matching tag p lit (with_subtable (subtable_of s) es)) = ap (λ o. sum_by f (matching tag p lit (with_last o es))) is in
        let adds = last_adds s es absent f in
        omega arith

    pub same_alone : last ≡ None → HasSame xs (matching tag p lit (with_last last es))
    same_alone is = λ f. same f ∙ ap (λ o. sum_by f (matching tag p lit (with_last o es))) (sym is)
