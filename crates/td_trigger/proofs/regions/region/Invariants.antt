use Rattle.std.proofs.Common.{◌≡◌, ◌+◌, ◌^◌, ◌<◌, All, map, take}
use Rattle.td_limits.specs.declared.limits.TheConstants.{LONGEST_DURATION}
use Rattle.td_trigger.specs.declared.range.Range.{Range}
use Rattle.td_trigger.specs.Regions.{reach_of, widened}
use Rattle.td_trigger.proofs.regions.region.Given as goal

abbrev pub invariant-loop-range : goal.invariant-loop-range
invariant-loop-range l = record {
  each : l.ranges.items ≡ map (widened l.window (map (reach_of l.window) l.old)) (take l.range-index l.touched);
  small : All (λ (r : Range). r.hi < 2 ^ 63 + LONGEST_DURATION) l.ranges.items;
}
