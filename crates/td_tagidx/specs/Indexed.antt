-- What an index stands for: subtables with their tags, in number order, beside the room for more.
use Rattle.std.specs.Prelude.{◌≡◌, ◌<◌, ℕ, List, None}
use Rattle.std.specs.Ordering.{nat_cmp}
use Rattle.std.specs.Map.{lookup}
use Rattle.std.specs.BTreeMap.{insert_entry, is_at}
use Rattle.td_layer.specs.declared.values.Cell.{Cell}

-- subtables by number, each number once, with their tags
abbrev pub Subtables : Type 0
Subtables = List (ℕ × List Cell)

-- the subtables, and how many more the index takes without further memory
pub record Indexed : Type 0 where
  pub subtables : Subtables
  pub room : ℕ

-- no subtable has the number
abbrev pub IsAbsent : ℕ → Subtables → Type 0
IsAbsent table subtables = lookup (is_at (nat_cmp table)) subtables ≡ None

-- the subtables with one more, at its place by number
abbrev pub with_subtable : ℕ × List Cell → Subtables → Subtables
with_subtable change subtables = insert_entry nat_cmp subtables change.0 change.1

-- a change may be made, and takes no memory: its table isn't in the index, which has room for it
pub record IsReadyFor (change : ℕ × List Cell) (index : Indexed) : Type 0 where
  pub absent : IsAbsent change.0 index.subtables
  pub room : 0 < index.room
