use Rattle.std.proofs.Common.{◌≡◌, map}
use Rattle.std.specs.List.{range_with_len}
use Rattle.td_block.specs.Rows.{row_at}
use Rattle.td_block.proofs.rows.rows_from.Given as goal

abbrev pub invariant-loop-row : goal.invariant-loop-row
invariant-loop-row l = l.rows ≡ map (row_at l.times l.births l.columns) (range_with_len 0 l.row)
