use Rattle.std.proofs.Common.{◌^◌, ◌<◌, All}
use Rattle.td_trigger.specs.declared.range.Range.{Range}
use Rattle.td_trigger.specs.Ranges.{IsRange}
use Rattle.td_trigger_cases.proofs.windows.ranges_of.Given as goal

abbrev pub invariant-loop-word : goal.invariant-loop-word
invariant-loop-word l = record {
  ordered : All IsRange l.ranges.items;
  small : All (λ (r : Range). r.hi < 2 ^ 63) l.ranges.items;
}
