use Rattle.std.proofs.Common.{◌≡◌, ◌++◌, drop}
use Rattle.td_bind.specs.Literals.{said_group}
use Rattle.td_bind.proofs.literals.said_group.Given as goal

abbrev pub invariant-loop-i : goal.invariant-loop-i
invariant-loop-i l = said_group l.moment l.columns l.group ≡ l.said ++ said_group l.moment (drop l.i l.columns) (drop l.i l.group)
