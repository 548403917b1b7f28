use Rattle.std.proofs.Common.{◌≡◌, ◌+◌, ◌^◌, ◌<◌, map, sym, ap, ◌∙◌, subst}
use Rattle.std.proofs.lemmas.List.{take_all}
use Rattle.std.proofs.lemmas.List.Sorted.{All-permutation}
use Rattle.std.proofs.lemmas.Result.{IfOk-weaker}
use Rattle.std.specs.List.{AllByRecursion}
use Rattle.td_limits.specs.declared.limits.TheConstants.{LONGEST_DURATION}
use Rattle.td_trigger.specs.declared.range.Range.{Range}
use Rattle.td_trigger.specs.Regions.{reach_of, widened, join_gap, region}
use Rattle.td_trigger.specs.Ranges.{in_order, joined, IsRange, AreApart}
use Rattle.td_trigger.proofs.Covering.{regions_apart}
use Rattle.td_trigger.proofs.RegionRanges.{region_ranges}
use Rattle.td_trigger.proofs.Sorting.{sorted_is}
use Rattle.td_trigger.proofs.regions.region.Goals as goal

pub joined-requires-clause-small : goal.joined-requires-clause-small
joined-requires-clause-small c =
    rw c.as_slice.ensures.value (All-permutation (λ (r : Range). r.hi < 2 ^ 63 + LONGEST_DURATION) _ _ c.sort_unstable.ensures.permutation c.loop-range.invariant.small)

pub returns : goal.returns
returns c =
    let old = map (reach_of c.args.window.now) c.args.old.now in
    let every = take_all c.loop-range.range-index c.args.touched.now c.loop-range-test.false in
    let is : c.as_slice.result.now ≡ in_order (map (widened c.args.window.now old) c.args.touched.now) =
    c.as_slice.ensures.value ∙ sorted_is _ _ c.sort_unstable.ensures.permutation c.sort_unstable.ensures.sorted ∙ ap in_order (c.loop-range.invariant.each ∙ ap (map (widened c.args.window.now old)) every) in
    let gap = c.join_gap.ensures.value in
    let value = IfOk-weaker c.joined.result _ (λ ranges. ranges ≡ region c.args.touched.now old c.args.window.now) (λ ranges e. e ∙ ap (joined c.join_gap.result) is ∙ ap (λ g. joined g (in_order (map (widened c.args.window.now old) c.args.touched.now))) gap) c.joined.ensures in
    record {
      region = value;
      ordered = IfOk-weaker c.joined.result _ (AllByRecursion IsRange) (λ ranges e. subst (AllByRecursion IsRange) (sym e) (region_ranges c.args.touched.now old c.args.window.now c.requires.window c.requires.ordered)) value;
      apart = IfOk-weaker c.joined.result _ (AreApart (join_gap c.args.window.now)) (λ ranges e. subst (AreApart (join_gap c.args.window.now)) (sym e) (regions_apart (join_gap c.args.window.now) (map (widened c.args.window.now old) c.args.touched.now))) value;
    }
