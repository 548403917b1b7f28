use Rattle.std.proofs.Common.{◌≡◌, ◌++◌, ◌+◌, ◌-◌}
use Rattle.td_verdict.specs.Answers.{places_from}
use Rattle.td_fields.proofs.fields.first_places.Given as goal

abbrev pub invariant-loop-i : goal.invariant-loop-i
invariant-loop-i l = places_from 1 l.count ≡ l.places ++ places_from (l.i + 1) (l.count - l.i)
