-- The cells of a row that is lent.
use Rattle.std.specs.Prelude.{ℕ, List, map}
use Rattle.td_layer.specs.declared.values.Cell.{Cell}
use Rattle.td_model.specs.declared.catalog.Column.{Column}
use Rattle.td_verdict.specs.Fields.{row_cells}
use Rattle.td_verdict.specs.Answers.{shown}
use Rattle.td_query.specs.declared.cells.Line.{Line}

abbrev pub line_cells : List Column → Line → List Cell
line_cells columns l = row_cells columns l.name.now l.tags.now l.ts l.values.now

-- what is shown of rows
abbrev pub lines_shown : List Column → List ℕ → List Line → List (List Cell)
lines_shown columns places lines = map (λ (l : Line). shown places (line_cells columns l)) lines
