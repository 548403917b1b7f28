use Rattle.std.proofs.Common.{◌≡◌, ◌++◌}
use Rattle.td_levels.specs.Ranges.{sets_from}
use Rattle.td_levels.specs.Sets.{sets_of}
use Rattle.td_levels.proofs.files.sets_from.Given as goal

abbrev pub invariant-sets : goal.invariant-sets
invariant-sets l =
    sets_of l.all.items ++ sets_from l.edge (sets_of l.set-iterator.rest.items) ≡ sets_from l.edge (sets_of l.initial.set-iterator.rest.items)
