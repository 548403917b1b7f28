use Rattle.std.proofs.Common.{◌≡◌, ◌≢◌, ◌+◌, ◌-◌, ◌<◌, ◌≤◌, ◌++◌, length, map, All}
use Rattle.td_layer.specs.declared.values.Value.TheVariants.{Null}
use Rattle.td_window.specs.Windows.{state_windows}
use Rattle.td_window.specs.Spans.{places, time_at, state_at, window_with_states, IsInside}
use Rattle.td_window.proofs.OneState.{states_from}
use Rattle.td_window.proofs.states.state.Given as goal

abbrev pub invariant-windows : goal.invariant-windows
invariant-windows l = record {
  inside : l.first ≤ length l.values;
  found : l.first < length l.values → state_at l.values l.first ≢ Null;
  windows : state_windows (time_at l.ts) (state_at l.values) (places (length l.ts)) ≡ map (window_with_states l.values) l.spans.items ++ states_from l.ts l.values l.first;
  spans : All (IsInside (length l.ts)) l.spans.items;
  firsts : All (λ s. state_at l.values s.first ≢ Null) l.spans.items;
  lasts : All (λ s. state_at l.values (s.first + s.rows - 1) ≢ Null) l.spans.items;
}

abbrev pub decreases-windows : goal.decreases-windows
decreases-windows l = length l.values - l.first
