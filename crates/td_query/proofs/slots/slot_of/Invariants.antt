use Rattle.std.proofs.Common.{◌≡◌, ◌-◌, drop, length}
use Rattle.td_query.specs.Slots.{has_place}
use Rattle.td_query.proofs.slots.slot_of.Given as goal

abbrev pub invariant-places : goal.invariant-places
invariant-places l = has_place l.place (drop l.at l.places) ≡ has_place l.place l.places

abbrev pub decreases-places : goal.decreases-places
decreases-places l = length l.places - l.at
