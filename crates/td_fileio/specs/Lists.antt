-- Lists of rows as files take them.
use Rattle.std.specs.Prelude.{ℕ, zero, suc, ◌^◌, ◌<◌, ◌≤◌, IsTrue, List, [], ◌∷◌, map, length, take, drop}
use Rattle.std.specs.List.{AllByRecursion, flat_map}
use Rattle.std.specs.Ordering.{nat_cmp}
use Rattle.td_limits.specs.declared.limits.TheConstants.{BLOCK_ROWS}
use Rattle.td_cols.specs.declared.kinds.Kind.{Kind}
use Rattle.td_layer.specs.declared.parts.Partial.{Partial}
use Rattle.td_layer.specs.Keys.{RisesBy}
use Rattle.td_block.specs.Columns.{is_fixed}
use Rattle.td_block.specs.Rows.{Rows, IsRowOf}
use Rattle.td_fileio.specs.declared.lists.TableRows.{TableRows}
use Rattle.td_fileio.specs.Days.{is_in_day}

-- ---- blocks of rows

-- a list in pieces of so many items, the last of which may be shorter
abbrev pub pieces_of : {A : Type 0} → ℕ → ℕ → List A → List (List A)
pieces_of size zero xs = []
pieces_of size (suc n) [] = []
pieces_of size (suc n) (x ∷ xs) = take size (x ∷ xs) ∷ pieces_of size n (drop size (x ∷ xs))

-- the rows of the blocks of a table: as many in each as a block may have, but in the last
unfoldable pub in_blocks : Rows → List Rows
in_blocks rows = pieces_of BLOCK_ROWS (length rows) rows

-- a block: its table, the kinds of its columns, and its rows
pub record FileBlock : Type 0 where
  pub table : ℕ
  pub kinds : List Kind
  pub rows : Rows

-- the blocks of rows of a table
abbrev pub blocks_of_rows : ℕ → List Kind → Rows → List FileBlock
blocks_of_rows table kinds rows =
    map (λ (some : Rows). record { table = table; kinds = kinds; rows = some }) (in_blocks rows)

abbrev pub table_blocks : TableRows → List FileBlock
table_blocks t = blocks_of_rows t.table t.kinds t.rows

-- the blocks of all tables
abbrev pub all_blocks : List TableRows → List FileBlock
all_blocks tables = flat_map table_blocks tables

-- ---- which lists can be written

-- What a table may have in a file of a day range: fixed columns, rows that rise by timestamp in the day range, with a
-- cell for each column in its range.
pub record AreTableRows (range : ℕ) (t : TableRows) : Type 0 where
  pub table_is : 1 ≤ t.table
  pub columns : length t.kinds < 2 ^ 16
  pub fixed : AllByRecursion (λ (kind : Kind). IsTrue (is_fixed kind)) t.kinds
  pub rising : RisesBy nat_cmp t.rows
  pub rows_are : AllByRecursion (IsRowOf t.kinds) t.rows
  pub in_day : AllByRecursion (λ (row : ℕ × Partial). IsTrue (is_in_day range row.0)) t.rows

-- the tables rise
abbrev pub RiseBehind : ℕ → List TableRows → Type 0
RiseBehind table [] = Unit {0}
RiseBehind table (t ∷ ts) = (table < t.table) × RiseBehind t.table ts

-- A list of tables with their rows, for a file of a day range.
pub record IsRowList (range : ℕ) (tables : List TableRows) : Type 0 where
  pub rise : RiseBehind 0 tables
  pub each : AllByRecursion (AreTableRows range) tables
  pub few : length (all_blocks tables) < 2 ^ 32
