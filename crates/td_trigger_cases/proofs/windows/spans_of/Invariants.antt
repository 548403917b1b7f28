use Rattle.std.proofs.Common.{All, map}
use Rattle.td_trigger.specs.Regions.{AreInOrder, extent}
use Rattle.td_trigger_cases.proofs.Ordered.{IsUpTo}
use Rattle.td_trigger_cases.proofs.windows.spans_of.Given as goal

abbrev pub invariant-loop-range : goal.invariant-loop-range
invariant-loop-range l = record {
  ordered : AreInOrder (map extent l.spans.items);
  below : All (IsUpTo l.last) (map extent l.spans.items);
}
