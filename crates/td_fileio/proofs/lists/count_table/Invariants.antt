use Rattle.std.proofs.Common.{◌≡◌, ◌+◌, length}
use Rattle.td_fileio.specs.Lists.{in_blocks}
use Rattle.td_fileio.proofs.lists.count_table.Given as goal

abbrev pub invariant-loop-left : goal.invariant-loop-left
invariant-loop-left l = l.count + length (in_blocks l.left) ≡ length (in_blocks l.rows)

abbrev pub decreases-loop-left : goal.decreases-loop-left
decreases-loop-left l = length l.left
