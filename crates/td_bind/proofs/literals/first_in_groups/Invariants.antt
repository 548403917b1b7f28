use Rattle.std.proofs.Common.{◌≡◌, drop}
use Rattle.td_verdict.specs.Writes.{first_given}
use Rattle.td_bind.specs.Literals.{is_at_fault, first_said}
use Rattle.td_bind.proofs.literals.first_in_groups.Given as goal

abbrev pub invariant-loop-group : goal.invariant-loop-group
invariant-loop-group l = first_given (first_said (is_at_fault l.fault l.table) l.columns) l.groups ≡ first_given (first_said (is_at_fault l.fault l.table) l.columns) (drop l.group-index l.groups)
