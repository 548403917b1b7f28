-- What the fields of the groups of subtables stand for, and what they keep.
use Rattle.std.specs.Prelude.{◌≡◌, ◌<◌, ◌-◌, ℕ, min, map, length, vec_len, vec_capacity, Vec, Option, Some, None}
use Rattle.std.specs.List.{slice_index_or}
use Rattle.std.specs.Option.{ForSome}
use Rattle.td_catalog.specs.declared.groups.Groups.TheInside.{Inside}
use Rattle.td_catalog.specs.Groups.{Grouped}

-- where no group may lack room there is room for one more
abbrev pub room_beside : Option ℕ → ℕ
room_beside None = 1
room_beside (Some at) = 0

abbrev pub grouped_of : Inside → Grouped
grouped_of a = record {
  lists = map (λ g. g.items) a.groups.items;
  stable_room = min (vec_capacity a.groups - vec_len a.groups) (room_beside a.full);
  child_room = room_beside a.full;
}

-- the group that may lack room is there, and each other has room for one more
pub record AreRoomy (a : Inside) : Type 0 where
  pub there : ForSome a.full (λ at. at < vec_len a.groups)
  pub roomy : (i : ℕ) (d : Vec ℕ _) → i < length a.groups.items → (a.full ≡ Some i → ⊥)
      → vec_len (slice_index_or a.groups.items i d) < vec_capacity (slice_index_or a.groups.items i d)
