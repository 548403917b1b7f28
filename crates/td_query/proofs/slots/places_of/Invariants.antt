use Rattle.std.proofs.Common.{take}
use Rattle.td_query.specs.Slots.{AreCovered}
use Rattle.td_query.proofs.slots.places_of.Given as goal

abbrev pub invariant-items : goal.invariant-items
invariant-items l = AreCovered l.columns l.places.items (take l.item-index l.items)
