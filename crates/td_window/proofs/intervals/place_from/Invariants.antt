use Rattle.std.proofs.Common.{◌-◌, ◌<◌, ◌≤◌, ℕ, length, slice_index}
use Rattle.td_window.proofs.intervals.place_from.Given as goal

abbrev pub invariant-places : goal.invariant-places
invariant-places l = (l.from ≤ l.place) × (l.place ≤ length l.ts) × ((p : ℕ) → l.from ≤ p → p < l.place → slice_index l.ts p < l.bound)

abbrev pub decreases-places : goal.decreases-places
decreases-places l = length l.ts - l.place
