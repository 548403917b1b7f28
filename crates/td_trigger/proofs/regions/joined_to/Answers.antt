use Rattle.std.proofs.Common.{◌≡◌, get_or, ◌∙◌, arith}
use Rattle.td_trigger.specs.declared.range.Range.{Range}
use Rattle.td_trigger.specs.Ranges.{hull}
use Rattle.td_trigger.proofs.Joining.{joins, begins}
use Rattle.td_trigger.proofs.regions.joined_to.Goals.{then-range-open, else-range-open+in_ok-push}
use Rattle.td_trigger.proofs.regions.joined_to.Goals as goal

pub loop-range-preserved : goal.loop-range-preserved
loop-range-preserved c =
    let i = c.loop-range.range-index in
    let rest = c.args.rest.now in
    let inside = c.loop-range-test.true in
    let so_far = c.loop-range.invariant in
    let zero_range : Range = record { lo = 0; hi = 0 } in
    let bound = c.requires.small i zero_range inside in
    elim c.if-range-open.branch [
      | then-range-open w ↦
          let is : c.if-range-open.open ≡ hull c.loop-range.open (get_or rest i zero_range) = w.open-is ∙ w.hull-open.ensures in
          record {
            small = rw is (omega (arith, so_far.small, bound));
            whole = rw (is, w.regions-is) (joins c.args.gap c.loop-range.open rest i zero_range _ c.loop-range.regions.items inside w.if-range-open.true so_far.whole);
          }
      | else-range-open+in_ok-push w ↦
          record {
            small = rw w.open-is bound;
            whole = rw (w.open-is, w.regions-is, w.in_ok-push.ensures.items) (begins c.args.gap c.loop-range.open rest i zero_range _ c.loop-range.regions.items inside w.if-range-open.false so_far.whole);
          }
    ]
