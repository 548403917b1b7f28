-- What a file of a list of tables gives.
use Rattle.std.specs.Prelude.{◌≡◌, ℕ, ◌==◌, if◌then◌else◌, List, []}
use Rattle.std.specs.List.{flat_map}
use Rattle.td_layer.specs.declared.values.Key.{Key}
use Rattle.td_layer.specs.declared.parts.Partial.{Partial}
use Rattle.td_block.specs.Rows.{Rows, HasNumbers}
use Rattle.td_fileio.specs.declared.lists.TableRows.{TableRows}
use Rattle.td_datafile.specs.Scanned.{Want, wanted_of, keyed}

-- what is wanted of rows of a table
abbrev pub wanted_in : Want → ℕ → Rows → List (Key × Partial)
wanted_in want table rows = (if table == want.table then keyed want.table (wanted_of want.lo want.hi rows) else [])

-- what is wanted of tables
abbrev pub partials_of : Want → List TableRows → List (Key × Partial)
partials_of want tables = flat_map (λ (t : TableRows). wanted_in want t.table t.rows) tables

-- A table whose numbers are of the program's types, and whose columns are of the wanted kinds where it is wanted.
pub record IsWantedTable (want : Want) (t : TableRows) : Type 0 where
  pub numbers : HasNumbers t.table t.rows
  pub kinds : t.table ≡ want.table → t.kinds ≡ want.kinds
