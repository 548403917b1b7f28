use Rattle.std.proofs.Common.{◌≡◌, ◌++◌, drop, map}
use Rattle.td_bind.specs.Literals.{said_group}
use Rattle.td_bind.proofs.literals.said_groups.Given as goal

abbrev pub invariant-loop-group : goal.invariant-loop-group
invariant-loop-group l = map (said_group l.moment l.columns) l.groups ≡ l.all ++ map (said_group l.moment l.columns) (drop l.group-index l.groups)
