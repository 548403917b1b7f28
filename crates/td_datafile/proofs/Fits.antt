-- The summaries of columns are such as an index may have.
use Rattle.std.proofs.Common.{◌≡◌, ℕ, suc, ◌-◌, ◌*◌, ◌^◌, ◌≤◌, true, ltb, leb, eqb, cond, ℤ, pos, neg_ℤ, List, [], ◌∷◌, length, Option, Some, None, refl, arith}
use Rattle.std.specs.Prelude.{◌&&◌, ◌≤ℤ◌, ◌+ℤ◌, int_le, slice_index_or, IfSome}
use Rattle.std.specs.List.{AllByRecursion}
use Rattle.std.specs.Ordering.{int_eq}
use Rattle.std.proofs.lemmas.Bool.{and_from, lt-ltb, le-leb}
use Rattle.std.proofs.lemmas.Bool.Decides.{nat_tests}
use Rattle.std.proofs.lemmas.Int.{ints, clamps}
use Rattle.std.proofs.lemmas.List.{length-map}
use Rattle.td_cols.specs.declared.kinds.Kind.TheVariants.{Wide}
use Rattle.td_cols.specs.Kinds.{is_in_range}
use Rattle.td_layer.specs.declared.values.Value.{Value}
use Rattle.td_layer.specs.declared.values.Value.TheVariants as value
use Rattle.td_layer.specs.declared.parts.Partial.{Partial}
use Rattle.td_layer.specs.Columns.{IsColumnNumber, IsColumnValue, AreColumnCells}
use Rattle.td_aggr.specs.Aggregates.{sum_of, least, greatest}
use Rattle.td_block.specs.Rows.{Rows, column_at}
use Rattle.td_datafile.specs.Sums.{numbers_of, summary_of}
use Rattle.td_datafile.specs.Entries.{is_sum, is_bound, summary_in}
use Rattle.td_datafile.proofs.EntryLaws.{in_wide}
use Rattle.td_datafile.proofs.SumLaws.{cell_holds}

abbrev pub AreNumbers : List ℤ → Type 0
AreNumbers ns = AllByRecursion IsColumnNumber ns

-- ---- the numbers of a column

pub numbers_hold : (cells : List (Option Value)) → AllByRecursion (λ (cell : Option Value). IfSome cell IsColumnValue) cells → AreNumbers (numbers_of cells)
numbers_hold [] all = tt
numbers_hold (None ∷ cells) all = numbers_hold cells all.1
numbers_hold (Some value.Null ∷ cells) all = numbers_hold cells all.1
numbers_hold (Some (value.Num n) ∷ cells) all = (all.0, numbers_hold cells all.1)

pub numbers_few : (cells : List (Option Value)) → length (numbers_of cells) ≤ length cells
numbers_few [] = omega arith
numbers_few (None ∷ cells) = let others = numbers_few cells in omega (arith, others)
numbers_few (Some value.Null ∷ cells) = let others = numbers_few cells in omega (arith, others)
numbers_few (Some (value.Num n) ∷ cells) = let others = numbers_few cells in omega (arith, others)

pub column_holds : (rows : Rows) (c : ℕ) → AllByRecursion (λ (row : ℕ × Partial). AreColumnCells row.1.cells) rows → AllByRecursion (λ (cell : Option Value). IfSome cell IsColumnValue) (column_at rows c)
column_holds [] c all = tt
column_holds (row ∷ rows) c all = (cell_holds row.1.cells c all.0, column_holds rows c all.1)

-- ---- sums and ends

abbrev pub SumBounds : ℕ → ℤ → Type 0
SumBounds count n = (neg_ℤ (pos (2 ^ 64 * count)) ≤ℤ n) × (n ≤ℤ pos (2 ^ 64 * count))

one_sum_more : (k : ℕ) (n s : ℤ) → IsColumnNumber n → SumBounds k s → SumBounds (suc k) (n +ℤ s)
one_sum_more k n s is b = (omega (arith, ints, is.0, is.1, b.0, b.1), omega (arith, ints, is.0, is.1, b.0, b.1))

pub sum_bounds : (ns : List ℤ) → AreNumbers ns → SumBounds (length ns) (sum_of ns)
sum_bounds [] all = (omega (arith, ints), omega (arith, ints))
sum_bounds (n ∷ ns) all = one_sum_more (length ns) n (sum_of ns) all.0 (sum_bounds ns all.1)

pub least_holds : (n : ℤ) (ns : List ℤ) → IsColumnNumber n → AreNumbers ns → IsColumnNumber (least n ns)
least_holds n [] is all = is
least_holds n (m ∷ ms) is all = let h = least_holds m ms all.0 all.1 in (omega (arith, ints, clamps, is.0, is.1, h.0, h.1), omega (arith, ints, clamps, is.0, is.1, h.0, h.1))

pub greatest_holds : (n : ℤ) (ns : List ℤ) → IsColumnNumber n → AreNumbers ns → IsColumnNumber (greatest n ns)
greatest_holds n [] is all = is
greatest_holds n (m ∷ ms) is all = let h = greatest_holds m ms all.0 all.1 in (omega (arith, ints, clamps, is.0, is.1, h.0, h.1), omega (arith, ints, clamps, is.0, is.1, h.0, h.1))

pub ends_in_order : (n : ℤ) (ns : List ℤ) → least n ns ≤ℤ greatest n ns
ends_in_order n [] = omega (arith, ints)
ends_in_order n (m ∷ ms) = let others = ends_in_order m ms in omega (arith, ints, clamps, others)

-- ---- what fits

sum_is : (count : ℕ) (n : ℤ) → SumBounds count n → is_sum count n ≡ true
sum_is count n b =
    let low : int_le (neg_ℤ (pos (2 ^ 64 * count))) n ≡ true = grind (arith, ints, b.0) in
    let high : int_le n (pos (2 ^ 64 * count)) ≡ true = grind (arith, ints, b.1) in
    and_from _ _ low high

bound_is : (k : ℕ) (n : ℤ) → IsColumnNumber n → is_bound (suc k) n ≡ true
bound_is k n is =
    let low : int_le (neg_ℤ (pos (2 ^ 63))) n ≡ true = grind (arith, ints, is.0) in
    let high : int_le n (pos (2 ^ 64 - 1)) ≡ true = grind (arith, ints, is.1) in
    some (and_from _ _ low high) where
      some : (int_le (neg_ℤ (pos (2 ^ 63))) n && int_le n (pos (2 ^ 64 - 1))) ≡ true → cond (eqb (suc k) 0) (int_eq n (pos 0)) (int_le (neg_ℤ (pos (2 ^ 63))) n && int_le n (pos (2 ^ 64 - 1))) ≡ true
      some e = grind (arith, nat_tests, e)

wide_sum : (count : ℕ) (n : ℤ) → count ≤ 1024 → SumBounds count n → is_in_range Wide n ≡ true
wide_sum count n few b = in_wide n (omega (arith, ints, few, b.0, b.1)) (omega (arith, ints, few, b.0, b.1))

wide_number : (n : ℤ) → IsColumnNumber n → is_in_range Wide n ≡ true
wide_number n is = in_wide n (omega (arith, ints, is.0, is.1)) (omega (arith, ints, is.0, is.1))

order_is : (a b : ℤ) → a ≤ℤ b → int_le a b ≡ true
order_is a b le = grind (arith, ints, le)

count_fits : (count rows : ℕ) → count ≤ rows → rows ≤ 1024 → (ltb count (2 ^ 32) && leb count rows) ≡ true
count_fits count rows le few = and_from _ _ (lt-ltb count (2 ^ 32) (omega (arith, le, few))) (le-leb count rows le)

pub summary_fits : (rows : ℕ) (ns : List ℤ) → length ns ≤ rows → rows ≤ 1024 → AreNumbers ns → (summary_in rows).fits (summary_of ns) ≡ true
unfolding summary_in
summary_fits rows [] le few all =
    and_from _ _ (count_fits 0 rows le few) (and_from _ _ (and_from _ _ (in_wide (pos 0) (omega (arith, ints)) (omega (arith, ints))) refl) (and_from _ _ (and_from _ _ (in_wide (pos 0) (omega (arith, ints)) (omega (arith, ints))) refl) (and_from _ _ (in_wide (pos 0) (omega (arith, ints)) (omega (arith, ints))) refl)))
summary_fits rows (n ∷ ns) le few all =
    let count = length (n ∷ ns) in
    let sum = sum_bounds (n ∷ ns) all in
    let low = least_holds n ns all.0 all.1 in
    let high = greatest_holds n ns all.0 all.1 in
    and_from _ _ (count_fits count rows le few)
    (and_from _ _ (and_from _ _ (wide_sum count (sum_of (n ∷ ns)) (omega (arith, le, few)) sum) (sum_is count (sum_of (n ∷ ns)) sum))
    (and_from _ _ (and_from _ _ (wide_number (least n ns) low) (bound_is (length ns) (least n ns) low))
    (and_from _ _ (wide_number (greatest n ns) high) (and_from _ _ (bound_is (length ns) (greatest n ns) high) (order_is (least n ns) (greatest n ns) (ends_in_order n ns))))))

pub column_fits : (rows : Rows) (c : ℕ) → length rows ≤ 1024 → AllByRecursion (λ (row : ℕ × Partial). AreColumnCells row.1.cells) rows → (summary_in (length rows)).fits (summary_of (numbers_of (column_at rows c))) ≡ true
column_fits rows c few all =
    let le : length (numbers_of (column_at rows c)) ≤ length rows = omega (arith, numbers_few (column_at rows c), length-map rows (λ (row : ℕ × Partial). slice_index_or row.1.cells c None)) in
    summary_fits (length rows) (numbers_of (column_at rows c)) le few (numbers_hold (column_at rows c) (column_holds rows c all))
