use Rattle.std.proofs.Common.{◌≡◌, map, take}
use Rattle.td_verdict.specs.Windowed.{value_at}
use Rattle.td_query.proofs.spans.states_of.Given as goal

abbrev pub invariant-rows : goal.invariant-rows
invariant-rows l = l.states.items ≡ map (value_at l.place) (take l.entry-index l.rows)
