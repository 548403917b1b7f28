use Rattle.std.proofs.Common.{◌≡◌, ◌-◌, ◌≤◌, ◌++◌, length, map, All}
use Rattle.td_window.specs.Windows.{session_windows}
use Rattle.td_window.specs.Spans.{places, time_at, window_of, IsInside}
use Rattle.td_window.proofs.OneSession.{sessions_from}
use Rattle.td_window.proofs.sessions.session.Given as goal

abbrev pub invariant-sessions : goal.invariant-sessions
invariant-sessions l = record {
  inside : l.first ≤ length l.ts;
  windows : session_windows (time_at l.ts) l.tol (places (length l.ts)) ≡ map window_of l.spans.items ++ sessions_from l.ts l.tol l.first;
  spans : All (IsInside (length l.ts)) l.spans.items;
}

abbrev pub decreases-sessions : goal.decreases-sessions
decreases-sessions l = length l.ts - l.first
