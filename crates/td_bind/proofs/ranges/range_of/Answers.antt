use Rattle.std.proofs.Common.{◌≡◌, max, min, ◌∙◌, ap₂, rules}
use Rattle.td_bind.proofs.Planned.{lowest_more, highest_more}
use Rattle.td_bind.proofs.ranges.range_of.Goals as goal

pub loop-comparison-preserved : goal.loop-comparison-preserved
loop-comparison-preserved c =
    let ps = c.args.comparisons.now in
    let i = c.loop-comparison.comparison-index in
    let p = c.comparison-item.result in
    let lo : c.max-lo.result ≡ max c.loop-comparison.lo c.low.result = search rules in
    let hi : c.min-hi.result ≡ min c.loop-comparison.hi c.high.result = search rules in (
      lo ∙ ap₂ max c.loop-comparison.invariant.0 c.low.ensures ∙ lowest_more ps i p c.loop-comparison-test.true c.comparison-item.is,
      hi ∙ ap₂ min c.loop-comparison.invariant.1 c.high.ensures ∙ highest_more ps i p c.loop-comparison-test.true c.comparison-item.is,
    )
