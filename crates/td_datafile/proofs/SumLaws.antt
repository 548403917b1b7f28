-- Summaries that are made number by number.
use Rattle.std.proofs.Common.{◌≡◌, ℕ, zero, suc, ◌+◌, ℤ, List, [], ◌∷◌, ◌++◌, length, Option, Some, None, refl, ap, ◌∙◌, arith}
use Rattle.std.specs.Prelude.{IfSome, slice_index_or, ◌==◌, if◌then◌else◌, ◌≤◌}
use Rattle.std.specs.Int.{int_min, int_max}
use Rattle.std.proofs.lemmas.Bool.Decides.{nat_tests}
use Rattle.td_aggr.specs.Aggregates.{least, greatest}
use Rattle.std.specs.List.{AllByRecursion}
use Rattle.td_layer.specs.declared.values.Value.{Value}
use Rattle.td_layer.specs.declared.values.Value.TheVariants as value
use Rattle.td_layer.specs.declared.parts.Partial.{Partial}
use Rattle.td_layer.specs.Columns.{AreColumnCells, IsColumnValue}
use Rattle.td_block.specs.Rows.{Rows, column_at}
use Rattle.td_datafile.specs.declared.format.Summary.{Summary}
use Rattle.td_datafile.specs.Sums.{numbers_of, summary_of, no_numbers, with_number, with_cell}

-- a summary with the cells that stand before it
abbrev pub with_cells : List (Option Value) → Summary → Summary
with_cells [] s = s
with_cells (c ∷ cs) s = with_cell c (with_cells cs s)

abbrev made_of : ℕ → ℤ → ℤ → ℤ → Summary
made_of count sum least greatest = record { count = count; sum = sum; least = least; greatest = greatest }

same : (count count' : ℕ) (sum sum' low low' high high' : ℤ) → count ≡ count' → sum ≡ sum' → low ≡ low' → high ≡ high' → made_of count sum low high ≡ made_of count' sum' low' high'
same count count' sum sum' low low' high high' p q r s = cc

more_than_none : (k : ℕ) (a b : ℤ) → (if suc k == 0 then a else b) ≡ b
more_than_none k a b = grind (arith, nat_tests)

number_first : (n : ℤ) (ns : List ℤ) → with_number n (summary_of ns) ≡ summary_of (n ∷ ns)
number_first n [] = refl
number_first n (m ∷ ms) =
    same (length (m ∷ ms) + 1) (suc (length (m ∷ ms))) _ _ _ _ _ _ (omega arith) refl (more_than_none (length ms) n (int_min n (least m ms))) (more_than_none (length ms) n (int_max n (greatest m ms)))

pub one_more : (c : Option Value) (s : Summary) → (with_cell c s).count ≤ s.count + 1
one_more None s = omega arith
one_more (Some value.Null) s = omega arith
one_more (Some (value.Num n)) s = omega arith

pub all_cells : (cells : List (Option Value)) → with_cells cells no_numbers ≡ summary_of (numbers_of cells)
all_cells [] = refl
all_cells (None ∷ cs) = all_cells cs
all_cells (Some value.Null ∷ cs) = all_cells cs
all_cells (Some (value.Num n) ∷ cs) = ap (with_number n) (all_cells cs) ∙ number_first n (numbers_of cs)

-- the last row's cell is the first that is added
pub last_first : (rest : Rows) (row : ℕ × Partial) (c : ℕ) (s : Summary) → with_cells (column_at (rest ++ row ∷ []) c) s ≡ with_cells (column_at rest c) (with_cell (slice_index_or row.1.cells c None) s)
last_first [] row c s = refl
last_first (r ∷ rest) row c s = ap (with_cell (slice_index_or r.1.cells c None)) (last_first rest row c s)

pub all_before : {A : Type 0} (P : A → Type 0) (xs : List A) (x : A) → AllByRecursion P (xs ++ x ∷ []) → AllByRecursion P xs × P x
all_before P [] x all = (tt, all.0)
all_before P (y ∷ ys) x all = let r = all_before P ys x all.1 in ((all.0, r.0), r.1)

-- a cell of a row's cells is such as a column can hold
pub cell_holds : (cells : List (Option Value)) (c : ℕ) → AreColumnCells cells → IfSome (slice_index_or cells c None) IsColumnValue
cell_holds [] c all = tt
cell_holds (x ∷ xs) zero all = all.0
cell_holds (x ∷ xs) (suc c) all = cell_holds xs c all.1
