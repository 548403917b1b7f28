-- What the index says of a column of a block: how many values it has, their sum, the least and the greatest.
use Rattle.std.specs.Prelude.{ℕ, ◌+◌, ◌*◌, ◌^◌, ◌==◌, ℤ, pos, neg_ℤ, ◌+ℤ◌, ◌≤ℤ◌, if◌then◌else◌, List, [], ◌∷◌, map, length, Option, Some, None}
use Rattle.std.specs.List.{filter_map}
use Rattle.std.specs.Int.{int_min, int_max}
use Rattle.td_layer.specs.declared.values.Value.{Value}
use Rattle.td_layer.specs.declared.values.Value.TheVariants as value
use Rattle.td_aggr.specs.Aggregates.{sum_of, least, greatest}
use Rattle.td_block.specs.Rows.{Rows, columns_of}
use Rattle.td_datafile.specs.declared.format.Summary.{Summary}

-- the number of a cell: none where it names no value, or NULL
abbrev pub number_of : Option Value → Option ℤ
number_of None = None
number_of (Some value.Null) = None
number_of (Some (value.Num n)) = Some n

abbrev pub numbers_of : List (Option Value) → List ℤ
numbers_of cells = filter_map number_of cells

abbrev pub no_numbers : Summary
no_numbers = record { count = 0; sum = pos 0; least = pos 0; greatest = pos 0 }

-- The summary of numbers: how many there are, their sum, the least and the greatest; all are 0 where there is none.
abbrev pub summary_of : List ℤ → Summary
summary_of [] = no_numbers
summary_of (n ∷ ns) =
    record { count = length (n ∷ ns); sum = sum_of (n ∷ ns); least = least n ns; greatest = greatest n ns }

-- the summaries of the first so many columns of rows
abbrev pub summaries : ℕ → Rows → List Summary
summaries count rows = map (λ (cells : List (Option Value)). summary_of (numbers_of cells)) (columns_of count rows)

-- ---- one by one

-- the summary of a number and of those of another summary
abbrev pub with_number : ℤ → Summary → Summary
with_number n s = record {
  count = s.count + 1;
  sum = n +ℤ s.sum;
  least = (if s.count == 0 then n else int_min n s.least);
  greatest = (if s.count == 0 then n else int_max n s.greatest);
}

abbrev pub with_cell : Option Value → Summary → Summary
with_cell None s = s
with_cell (Some value.Null) s = s
with_cell (Some (value.Num n)) s = with_number n s

-- the sum is such as so many numbers of a column can have
pub record HasSum (s : Summary) : Type 0 where
  pub low : neg_ℤ (pos (2 ^ 64 * s.count)) ≤ℤ s.sum
  pub high : s.sum ≤ℤ pos (2 ^ 64 * s.count)
