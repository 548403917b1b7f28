use Rattle.std.proofs.Common.{◌≡◌, ◌++◌, length}
use Rattle.td_commit.specs.Clipped.{clipped}
use Rattle.td_commit.proofs.tables.clipped.Given as goal

abbrev pub invariant-loop-cut : goal.invariant-loop-cut
invariant-loop-cut l = l.some ++ clipped l.range l.left ≡ clipped l.range l.cuts

abbrev pub decreases-loop-cut : goal.decreases-loop-cut
decreases-loop-cut l = length l.left
