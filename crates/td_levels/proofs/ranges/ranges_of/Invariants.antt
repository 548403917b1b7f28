use Rattle.std.proofs.Common.{◌-◌, ◌^◌}
use Rattle.td_levels.specs.Sets.{sets_of}
use Rattle.td_levels.proofs.RangesOf.{UpTo}
use Rattle.td_levels.proofs.ranges.ranges_of.Given as goal

abbrev pub invariant-loop-range : goal.invariant-loop-range
invariant-loop-range l = UpTo l.memtable (sets_of l.sets) l.edge l.from l.ranges

abbrev pub decreases-loop-range : goal.decreases-loop-range
decreases-loop-range l = 2 ^ 32 - l.from
