-- The rows of a block: lists of timestamps, births and columns, and what a block can hold.
use Rattle.std.specs.Prelude.{ℕ, ◌^◌, ◌<◌, ◌≤◌, nat_le, nat_lt, Bool, true, ◌&&◌, IsTrue, List, map, length, slice_get, slice_index, slice_index_or, ◌-◌, Option, Some, None}
use Rattle.std.specs.List.{range_with_len, AllByRecursion, AllZip}
use Rattle.std.specs.Option.{option_map_or}
use Rattle.std.specs.Ordering.{nat_cmp}
use Rattle.std.specs.Int.{w64}
use Rattle.td_limits.specs.declared.limits.TheConstants.{BLOCK_ROWS, LAST_TIMESTAMP}
use Rattle.td_cols.specs.declared.kinds.Kind.{Kind}
use Rattle.td_cols.specs.Kinds.{is_in_range}
use Rattle.td_layer.specs.declared.values.Value.{Value}
use Rattle.td_layer.specs.declared.values.Value.TheVariants as value
use Rattle.td_layer.specs.declared.parts.Partial.{Partial}
use Rattle.td_layer.specs.Keys.{RisesBy}
use Rattle.td_codec.specs.Fields.{Field, number, checked}
use Rattle.td_codec.specs.Lists.{Items, each}
use Rattle.td_block.specs.Columns.{so_many, is_fixed}

-- rows as a block holds them: timestamps and partials
abbrev pub Rows : Type 0
Rows = List (ℕ × Partial)

-- ---- timestamps and births

-- whether a timestamp comes after the last of some, where there are any
abbrev pub is_later : List ℕ → ℕ → Bool
is_later before ts = option_map_or (λ last. nat_lt last ts) (slice_get before (length before - 1)) true

-- a timestamp behind those of the rows before
abbrev pub time_behind : List ℕ → Field ℕ
time_behind before = checked (number w64) (λ ts. nat_le ts LAST_TIMESTAMP && is_later before ts)

abbrev pub time_items : Items ℕ
time_items =
    record {
      read = λ before. (time_behind before).read;
      spelled = (number w64).spelled;
      fits = λ before. (time_behind before).fits;
    }

-- rising timestamps of so many rows
unfoldable pub times : ℕ → Field (List ℕ)
times rows = so_many rows time_items

-- births of so many rows
unfoldable pub births : ℕ → Field (List ℕ)
births rows = so_many rows (each (number w64))

-- ---- rows and columns

-- the cells of row r, over all columns
abbrev pub row_cells : List (List (Option Value)) → ℕ → List (Option Value)
row_cells columns r = map (λ column. slice_index_or column r None) columns

-- row r of the lists of timestamps, births and columns
abbrev pub row_at : List ℕ → List ℕ → List (List (Option Value)) → ℕ → ℕ × Partial
row_at ts births columns r =
    (slice_index ts r, record { birth = record { born = slice_index births r }; cells = row_cells columns r })

abbrev pub rows_from : List ℕ → List ℕ → List (List (Option Value)) → Rows
rows_from ts births columns = map (row_at ts births columns) (range_with_len 0 (length ts))

abbrev pub times_of : Rows → List ℕ
times_of rows = map (λ (row : ℕ × Partial). row.0) rows

abbrev pub births_of : Rows → List ℕ
births_of rows = map (λ (row : ℕ × Partial). row.1.birth.born) rows

-- column c of rows: a cell for each row
abbrev pub column_at : Rows → ℕ → List (Option Value)
column_at rows c = map (λ (row : ℕ × Partial). slice_index_or row.1.cells c None) rows

-- the first so many columns of rows
abbrev pub columns_of : ℕ → Rows → List (List (Option Value))
columns_of count rows = map (column_at rows) (range_with_len 0 count)

-- ---- what a block can hold

-- a cell names no value, or NULL, or a number of the kind
abbrev pub IsCellOf : Kind → Option Value → Type 0
IsCellOf kind None = Unit {0}
IsCellOf kind (Some value.Null) = Unit {0}
IsCellOf kind (Some (value.Num n)) = IsTrue (is_in_range kind n)

-- a row's timestamp is in range, and it has a cell for each kind
pub record IsRowOf (kinds : List Kind) (row : ℕ × Partial) : Type 0 where
  pub in_time : row.0 ≤ LAST_TIMESTAMP
  pub cells : AllZip IsCellOf kinds row.1.cells

-- What a block of a table with columns of these kinds can hold: 1 to 1024 rows in rising order of their timestamps.
pub record CanHold (kinds : List Kind) (table : ℕ) (rows : Rows) : Type 0 where
  pub table_is : 1 ≤ table
  pub columns : length kinds < 2 ^ 16
  pub fixed : AllByRecursion (λ (kind : Kind). IsTrue (is_fixed kind)) kinds
  pub some : 1 ≤ length rows
  pub few : length rows ≤ BLOCK_ROWS
  pub rising : RisesBy nat_cmp rows
  pub rows_are : AllByRecursion (IsRowOf kinds) rows

-- the table is a number of 32 bits, and each birth one of 64 bits, as in the program they always are
pub record HasNumbers (table : ℕ) (rows : Rows) : Type 0 where
  pub table_is : table < 2 ^ 32
  pub births_are : AllByRecursion (λ (row : ℕ × Partial). row.1.birth.born < 2 ^ 64) rows
