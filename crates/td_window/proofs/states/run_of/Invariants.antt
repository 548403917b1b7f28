use Rattle.std.proofs.Common.{◌≡◌, ◌⊎◌, ◌-◌, ◌<◌, ◌≤◌, ℕ, length}
use Rattle.td_layer.specs.declared.values.Value.TheVariants.{Null}
use Rattle.td_window.specs.Spans.{state_at}
use Rattle.td_window.proofs.states.run_of.Given as goal

abbrev pub invariant-places : goal.invariant-places
invariant-places l =
    (l.first ≤ l.last) × (l.last < l.next) × (l.next ≤ length l.values) × ((p : ℕ) → l.first ≤ p → p ≤ l.last → (state_at l.values p ≡ Null) ⊎ (state_at l.values p ≡ state_at l.values l.first)) × (state_at l.values l.last ≡ state_at l.values l.first) × ((p : ℕ) → l.last < p → p < l.next → state_at l.values p ≡ Null)

abbrev pub decreases-places : goal.decreases-places
decreases-places l = length l.values - l.next
