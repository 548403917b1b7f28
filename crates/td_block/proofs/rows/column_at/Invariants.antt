use Rattle.std.proofs.Common.{◌≡◌, take}
use Rattle.td_block.specs.Rows.{column_at}
use Rattle.td_block.proofs.rows.column_at.Given as goal

abbrev pub invariant-loop-row : goal.invariant-loop-row
invariant-loop-row l = l.cells.items ≡ column_at (take l.row-index l.rows) l.column
