-- The rows that a row query picks, with their cells.
use Rattle.std.specs.Prelude.{ℕ, List, map}
use Rattle.td_layer.specs.declared.values.Cell.{Cell}
use Rattle.td_layer.specs.declared.values.Key.{Key}
use Rattle.td_layer.specs.declared.values.Row.{Row}
use Rattle.td_model.specs.State.{Rows}
use Rattle.td_model.specs.declared.catalog.Column.{Column}
use Rattle.td_verdict.specs.Answers.{Found, shown}
use Rattle.td_verdict.specs.Fields.{row_cells}
use Rattle.td_verdict.specs.declared.comparison.Comparison.{Comparison}
use Rattle.td_verdict.specs.Groups.{Listed, cells_of}
use Rattle.td_query.specs.Read.{key_of, wanted_from}
use Rattle.td_query.specs.declared.picks.Picked.{Picked}
use Rattle.td_query.specs.declared.rows.TimeKey.{TimeKey}

abbrev pub picked_cells : List Column → Picked → List Cell
picked_cells columns p = row_cells columns p.name.now p.tags.now p.ts p.row.values

-- rows that were picked, as the definitions have them by key
abbrev pub found_rows : List Column → List (TimeKey × Picked) → Found
found_rows columns es = map (λ (e : TimeKey × Picked). (key_of e.0, picked_cells columns e.1)) es

-- rows of a table with their cells
abbrev pub with_cells : List Column → Listed → Rows → Found
with_cells columns t rows = map (λ (e : Key × Row). (e.0, cells_of columns t e)) rows

-- of rows of a table those that are wanted, with their cells
abbrev pub wanted_found : List Column → List Comparison → ℕ → ℕ → Listed → List (ℕ × Row) → Found
wanted_found columns ps lo hi t found = with_cells columns t (wanted_from columns ps lo hi t found)

-- what is shown of rows that were picked
abbrev pub picked_shown : List Column → List ℕ → List Picked → List (List Cell)
picked_shown columns places rows = map (λ (p : Picked). shown places (picked_cells columns p)) rows
