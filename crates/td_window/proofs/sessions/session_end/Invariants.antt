use Rattle.std.proofs.Common.{◌+◌, ◌-◌, ◌<◌, ◌≤◌, ℕ, length, slice_index}
use Rattle.td_window.proofs.sessions.session_end.Given as goal

abbrev pub invariant-rows : goal.invariant-rows
invariant-rows l = (l.first < l.past) × (l.past ≤ length l.ts) × ((p : ℕ) → l.first ≤ p → p + 1 < l.past → slice_index l.ts (p + 1) - slice_index l.ts p ≤ l.tol)

abbrev pub decreases-rows : goal.decreases-rows
decreases-rows l = length l.ts - l.past
