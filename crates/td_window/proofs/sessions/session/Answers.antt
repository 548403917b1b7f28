use Rattle.std.proofs.Common.{length, arith, ap}
use Rattle.std.proofs.lemmas.List.Elements.{All-push}
use Rattle.td_window.specs.Spans.{window_of, IsInside}
use Rattle.td_window.proofs.Cuts.{one_more_window}
use Rattle.td_window.proofs.OneSession.{one_more_session}
use Rattle.td_window.proofs.sessions.session.Goals as goal

pub sessions-preserved : goal.sessions-preserved
sessions-preserved c =
    let ts = c.args.ts.now in
    let first = c.sessions.first in
    let past = c.session_end-past.result in
    let run = c.session_end-past.ensures in
    let step = one_more_session ts c.args.tol first past run.after run.inside run.together run.apart in
    record {
      inside = run.inside;
      windows = rw c.in_ok-push.ensures.items (one_more_window window_of c.sessions.spans.items _ _ _ _ _ c.sessions.invariant.windows step (ap window_of c.span_between.ensures));
      spans = rw c.in_ok-push.ensures.items (All-push (IsInside (length ts)) c.sessions.spans.items _ c.sessions.invariant.spans (rw c.span_between.ensures (omega arith, omega arith)));
    }
