use Rattle.std.proofs.Common.{◌≡◌, take, map}
use Rattle.td_making.specs.Making.{head_set}
use Rattle.td_making.proofs.heading.head_sets.Given as goal

-- so many sets are there
abbrev pub invariant-loop-set : goal.invariant-loop-set
invariant-loop-set l = l.all ≡ map head_set (take l.set-index l.sets)
