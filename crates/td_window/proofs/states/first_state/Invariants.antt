use Rattle.std.proofs.Common.{◌≡◌, ◌-◌, ◌<◌, ◌≤◌, ℕ, length}
use Rattle.td_layer.specs.declared.values.Value.TheVariants.{Null}
use Rattle.td_window.specs.Spans.{state_at}
use Rattle.td_window.proofs.states.first_state.Given as goal

abbrev pub invariant-places : goal.invariant-places
invariant-places l = (l.place ≤ length l.values) × ((p : ℕ) → p < l.place → state_at l.values p ≡ Null)

abbrev pub decreases-places : goal.decreases-places
decreases-places l = length l.values - l.place
