use Rattle.std.proofs.Common.{◌≡◌, drop}
use Rattle.td_levels.specs.Ranges.{with_files}
use Rattle.td_levels.specs.Sets.{sets_of}
use Rattle.td_levels.proofs.levels.RowLevels.with_files.Given as goal

-- what the files that are left make of the sets so far is what all make of the first sets
abbrev pub invariant-loop-i : goal.invariant-loop-i
invariant-loop-i l =
    with_files (drop l.i l.ranges) (drop l.i l.files) (sets_of l.sets.items) ≡ with_files l.ranges l.files l.self.sets
