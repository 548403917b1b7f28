use Rattle.std.proofs.Common.{◌≡◌, ◌+◌, length}
use Rattle.td_sttfile.specs.Written.{all_cuts}
use Rattle.td_sttfile.proofs.writing.count_cuts.Given as goal

abbrev pub invariant-loop-table : goal.invariant-loop-table
invariant-loop-table l = l.count + length (all_cuts l.left) ≡ length (all_cuts l.tables)

abbrev pub decreases-loop-table : goal.decreases-loop-table
decreases-loop-table l = length l.left
