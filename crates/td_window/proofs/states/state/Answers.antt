use Rattle.std.proofs.Common.{◌≡◌, ◌≢◌, ◌+◌, ◌-◌, ◌≤◌, length, sym, arith, ap, ◌∙◌}
use Rattle.std.proofs.lemmas.List.Elements.{All-push, All-nil}
use Rattle.td_layer.specs.declared.values.Value.TheVariants.{Null}
use Rattle.td_window.specs.Spans.{state_at, window_with_states, IsInside}
use Rattle.td_window.proofs.Cuts.{one_more_window}
use Rattle.td_window.proofs.OneState.{one_more_state, states_begin}
use Rattle.td_window.proofs.states.state.Goals as goal

pub windows-init : goal.windows-init
windows-init c =
    let ts = c.args.ts.now in
    let values = c.args.values.now in
    let first = c.first_state-first.ensures in
    record {
      inside = first.inside;
      found = first.found;
      windows = rw c.new-spans.ensures.items (states_begin ts values c.first_state-first.result (omega (arith, c.requires.same_length)) first.before);
      spans = rw c.new-spans.ensures.items (All-nil (IsInside (length ts)));
      firsts = rw c.new-spans.ensures.items (All-nil (λ s. state_at values s.first ≢ Null));
      lasts = rw c.new-spans.ensures.items (All-nil (λ s. state_at values (s.first + s.rows - 1) ≢ Null));
    }

pub windows-preserved : goal.windows-preserved
windows-preserved c =
    let ts = c.args.ts.now in
    let values = c.args.values.now in
    let first = c.windows.first in
    let last = c.run_of-run.result.last in
    let next = c.run_of-run.result.next in
    let run = c.run_of-run.ensures in
    let same_length = c.requires.same_length in
    let found = c.windows.invariant.found c.windows-test.true in
    let in_ts : next ≤ length ts = omega (arith, same_length, run.last.2) in
    let step = one_more_state ts values first last next run.last.0 run.last.1 in_ts found run.same run.ends run.between (λ h. run.next (omega (arith, same_length))) in
    let last_place : first + (last - first + 1) - 1 ≡ last = omega (arith, run.last.0) in
    let last_found : state_at values last ≢ Null = λ e. found (sym run.ends ∙ e) in
    record {
      inside = run.last.2;
      found = λ h. (run.next h).0;
      windows = rw c.in_ok-push.ensures.items (one_more_window (window_with_states values) c.windows.spans.items _ _ _ _ _ c.windows.invariant.windows step (ap (window_with_states values) c.span_between.ensures));
      spans = rw c.in_ok-push.ensures.items (All-push (IsInside (length ts)) c.windows.spans.items _ c.windows.invariant.spans (rw c.span_between.ensures (omega arith, omega arith)));
      firsts = rw c.in_ok-push.ensures.items (All-push (λ s. state_at values s.first ≢ Null) c.windows.spans.items _ c.windows.invariant.firsts (rw c.span_between.ensures found));
      lasts = rw c.in_ok-push.ensures.items (All-push (λ s. state_at values (s.first + s.rows - 1) ≢ Null) c.windows.spans.items _ c.windows.invariant.lasts (rw (c.span_between.ensures, last_place) last_found));
    }
