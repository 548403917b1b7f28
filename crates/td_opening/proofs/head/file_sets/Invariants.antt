use Rattle.std.proofs.Common.{◌≡◌, map, take}
use Rattle.td_levels.specs.Sets.{sets_of}
use Rattle.td_stands.specs.Heads.{set_files}
use Rattle.td_opening.proofs.head.file_sets.Given as goal

abbrev pub invariant-loop-set : goal.invariant-loop-set
invariant-loop-set l = sets_of l.sets.items ≡ map set_files (take l.set-index l.set-items)
