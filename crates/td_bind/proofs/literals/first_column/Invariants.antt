use Rattle.std.proofs.Common.{◌≡◌, drop}
use Rattle.td_bind.specs.Literals.{is_at_fault, first_said}
use Rattle.td_bind.proofs.literals.first_column.Given as goal

abbrev pub invariant-loop-i : goal.invariant-loop-i
invariant-loop-i l = first_said (is_at_fault l.fault l.table) l.columns l.group ≡ first_said (is_at_fault l.fault l.table) (drop l.i l.columns) (drop l.i l.group)
