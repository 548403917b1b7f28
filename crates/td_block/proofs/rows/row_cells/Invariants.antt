use Rattle.std.proofs.Common.{◌≡◌, take}
use Rattle.td_block.specs.Rows.{row_cells}
use Rattle.td_block.proofs.rows.row_cells.Given as goal

abbrev pub invariant-loop-column : goal.invariant-loop-column
invariant-loop-column l = l.cells.items ≡ row_cells (take l.column-index l.columns) l.row
