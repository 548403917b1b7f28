use Rattle.std.proofs.Common.{◌≡◌, ◌++◌, drop}
use Rattle.std.specs.List.{flat_map}
use Rattle.td_model.specs.Text.{row_line}
use Rattle.td_report.proofs.cells.push_rows.Given as goal

-- what was written and what is left to write are all
abbrev pub invariant-loop-row : goal.invariant-loop-row
invariant-loop-row l = l.out ++ flat_map row_line (drop l.row-index l.rows) ≡ l.fn.out ++ flat_map row_line l.rows
