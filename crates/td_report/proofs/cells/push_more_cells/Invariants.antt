use Rattle.std.proofs.Common.{◌≡◌, ◌++◌, drop}
use Rattle.std.specs.List.{flat_map}
use Rattle.td_model.specs.Text.{more_cell}
use Rattle.td_report.proofs.cells.push_more_cells.Given as goal

-- what was written and what is left to write are all
abbrev pub invariant-loop-cell : goal.invariant-loop-cell
invariant-loop-cell l = l.out ++ flat_map more_cell (drop l.cell-index l.cells) ≡ l.fn.out ++ flat_map more_cell l.cells
