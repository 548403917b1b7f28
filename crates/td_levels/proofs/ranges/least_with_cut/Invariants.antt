use Rattle.std.proofs.Common.{take}
use Rattle.td_levels.specs.Days.{LeastFrom, has_cut_files}
use Rattle.td_levels.specs.Sets.{sets_of}
use Rattle.td_levels.proofs.ranges.least_with_cut.Given as goal

-- the least of the sets so far
abbrev pub invariant-loop-set : goal.invariant-loop-set
invariant-loop-set l = LeastFrom (has_cut_files l.memtable (sets_of (take l.set-index l.sets))) l.from l.least
