-- What the fields of an index stand for, and what they keep.
use Rattle.std.specs.Prelude.{◌≡◌, ℕ, List, map, sum_by, Option, Some, None, IsSortedByKey}
use Rattle.std.specs.Option.{ForSome}
use Rattle.std.specs.Ordering.{nat_cmp}
use Rattle.td_tagidx.specs.declared.index.TagIndex.TheInside.{Inside}
use Rattle.td_tagidx.specs.declared.index.Subtable.{Subtable}
use Rattle.td_tagidx.specs.declared.order.Slot.{Slot}
use Rattle.td_tagidx.specs.Indexed.{Indexed, Subtables, IsAbsent, with_subtable}
use Rattle.td_tagidx.specs.Subtables.{subtable_of}
use Rattle.td_tagidx.specs.Slots.{slots_of}

-- subtables with the one that was added last, where it stands apart
abbrev pub with_last : Option Subtable → Subtables → Subtables
with_last None subtables = subtables
with_last (Some s) subtables = with_subtable (subtable_of s) subtables

-- there is room for one subtable to stand apart
abbrev pub room_beside : Option Subtable → ℕ
room_beside None = 1
room_beside (Some s) = 0

abbrev pub indexed_of : Inside → Indexed
indexed_of a = record { subtables = with_last a.last (map subtable_of a.subtables.items); room = room_beside a.last }

-- subtables lie by number, and the slots are theirs, no more and no fewer: any sum over the slots is the sum over each
-- subtable's
pub record IsFiled (subtables : List Subtable) (slots : List Slot) : Type 0 where
  pub numbered : IsSortedByKey (λ s. s.table) nat_cmp subtables
  pub same : (f : Slot → ℕ) → sum_by f slots ≡ sum_by (λ s. sum_by f (slots_of s)) subtables

-- all subtables but the one that stands apart are filed, and that one isn't among them
pub record IsKept (a : Inside) : Type 0 where
  pub filed : IsFiled a.subtables.items a.slots.keys
  pub apart : ForSome a.last (λ s. IsAbsent s.table (map subtable_of a.subtables.items))
