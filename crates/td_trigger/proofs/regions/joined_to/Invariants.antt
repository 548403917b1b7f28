use Rattle.std.proofs.Common.{◌≡◌, ◌+◌, ◌^◌, ◌<◌, ◌++◌, drop}
use Rattle.td_limits.specs.declared.limits.TheConstants.{LONGEST_DURATION}
use Rattle.td_trigger.specs.Ranges.{joined_to}
use Rattle.td_trigger.proofs.regions.joined_to.Given as goal

abbrev pub invariant-loop-range : goal.invariant-loop-range
invariant-loop-range l = record {
  small : l.open.hi < 2 ^ 63 + LONGEST_DURATION;
  whole : joined_to l.fn.gap l.fn.first l.rest ≡ l.regions.items ++ joined_to l.fn.gap l.open (drop l.range-index l.rest);
}
