use Rattle.std.proofs.Common.{◌≡◌, ◌+◌, length}
use Rattle.td_fileio.specs.Lists.{all_blocks}
use Rattle.td_fileio.proofs.lists.count_blocks.Given as goal

abbrev pub invariant-loop-table : goal.invariant-loop-table
invariant-loop-table l = l.count + length (all_blocks l.left) ≡ length (all_blocks l.tables)

abbrev pub decreases-loop-table : goal.decreases-loop-table
decreases-loop-table l = length l.left
