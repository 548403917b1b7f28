use Rattle.std.proofs.Common.{◌+◌, length, arith, ap, map}
use Rattle.std.proofs.lemmas.List.Elements.{All-push, All-nil}
use Rattle.td_window.specs.Spans.{window_of, IsInside}
use Rattle.td_window.proofs.OneInterval.{Next, loop_begins, next_loop, loop_ends, pushed}
use Rattle.td_window.proofs.intervals.interval.Goals as goal

pub windows-init : goal.windows-init
windows-init c = record {
  loop = rw c.new-spans.ensures.items (loop_begins c.args.ts.now c.args.len c.args.offset c.args.slide c.requires.slide.0 c.requires.slide.1);
  spans = rw c.new-spans.ensures.items (All-nil (IsInside (length c.args.ts.now)));
}

pub windows-preserved : goal.windows-preserved
windows-preserved c =
    let ts = c.args.ts.now in
    let len = c.args.len in
    let slide = c.args.slide in
    let e = c.windows.end in
    let first = c.windows.first in
    let past = c.windows.past in
    let f = c.max-end.result in
    let past' = c.place_from-past.result in
    let first' = c.place_from-first.result in
    let least = c.end_past.ensures in
    let next : Next ts len c.args.offset slide e first f = record {
      least = c.end_past.result;
      is = c.max-end.ensures;
      grid = least.is_end;
      past = least.past;
      near = least.near;
      none_less = least.least;
    } in
    let from-past = c.place_from-past.ensures in
    let from-first = c.place_from-first.ensures in
    let starts = c.max.ensures in
    let bound = c.saturating_sub.ensures in
    let step = next_loop ts len c.args.offset slide c.requires.slide.0 c.requires.slide.1 c.requires.in_order (map window_of c.windows.spans.items) e first past f past' first' c.windows.invariant.loop c.windows-test.true next (omega (arith, starts, from-past.inside)) from-past.inside.1 (λ p h i. from-past.below p (omega (arith, starts)) i) from-past.found from-first.inside.0 from-first.inside.1 (λ p h i. let x = from-first.below p h i in omega (arith, bound)) (λ h. let x = from-first.found h in omega (arith, bound)) in
    record {
      loop = rw c.in_ok-push.ensures.items (pushed ts len c.args.offset slide c.windows.spans.items _ f first past' (f + slide) first' (ap window_of c.span_ending.ensures) step.1);
      spans = rw c.in_ok-push.ensures.items (All-push (IsInside (length ts)) c.windows.spans.items _ c.windows.invariant.spans (rw c.span_ending.ensures (omega (arith, step.0), omega (arith, step.0, from-past.inside))));
    }

pub returns-clause-windows : goal.returns-clause-windows
returns-clause-windows c = rw c.from_vec.ensures (loop_ends c.args.ts.now c.args.len c.args.offset c.args.slide c.requires.slide.0 (map window_of c.windows.spans.items) c.windows.end c.windows.first c.windows.past c.windows.invariant.loop c.windows-test.false)
