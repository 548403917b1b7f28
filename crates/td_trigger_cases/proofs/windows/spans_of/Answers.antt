use Rattle.std.proofs.Common.{get_or, arith}
use Rattle.td_trigger.specs.declared.range.Range.{Range}
use Rattle.td_trigger.specs.Ranges.{IsRange}
use Rattle.td_trigger_cases.proofs.Ordered.{spans_pushed}
use Rattle.td_trigger_cases.proofs.windows.spans_of.Goals as goal

pub loop-range-preserved : goal.loop-range-preserved
loop-range-preserved c =
    let i = c.loop-range.range-index in
    let zero_range : Range = record { lo = 0; hi = 0 } in
    let is : IsRange (get_or c.args.ranges.now i zero_range) = c.requires.ordered i zero_range c.loop-range-test.true in
    let so_far = c.loop-range.invariant in
    let both = spans_pushed c.loop-range.spans.items _ c.span_of.result c.loop-range.last (get_or c.args.ranges.now i zero_range) c.in_ok-push.ensures.items c.span_of.ensures so_far.ordered so_far.below (omega arith) (omega arith) is in
    record { ordered = both.0; below = both.1 }
