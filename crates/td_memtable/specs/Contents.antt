-- What a memtable stands for: the put of each key, the cuts, and how many parts it took.
use Rattle.std.specs.Prelude.{ℕ, ◌+◌, ◌≤◌, ◌^◌, ◌-◌, max, nat_le, List, [], length, map, Option, Some, None, if◌then◌else◌}
use Rattle.std.specs.List.{AllByRecursion}
use Rattle.td_limits.specs.declared.limits.TheConstants.{MEMTABLE_PARTS}
use Rattle.td_layer.specs.declared.values.Key.{Key}
use Rattle.td_layer.specs.declared.parts.Partial.{Partial}
use Rattle.td_layer.specs.declared.parts.Part.{Part}
use Rattle.td_layer.specs.Columns.{AreColumnCells}
use Rattle.td_layer.specs.Parts.{cells_over}
use Rattle.td_layer.specs.Scans.{Cut, is_cut}
use Rattle.td_memtree.specs.Keys.{item_at, with_item}
use Rattle.td_memtree.specs.Within.{pairs_within, pairs_without}

-- The puts by key, each the composition of those on its key since the last cut over it; the cuts by table and first
-- timestamp, each with its last timestamp, the greatest of those with this first one; and the number of puts and cuts
-- taken.
pub record Contents : Type 0 where
  pub puts : List (Key × Partial)
  pub cuts : List (Key × ℕ)
  pub held : ℕ

abbrev pub nothing_held : Contents
nothing_held = record { puts = []; cuts = []; held = 0 }

abbrev pub key_at : ℕ → ℕ → Key
key_at table ts = record { table = table; ts = ts }

-- a put over that of its key, whose birth is kept
abbrev pub put_on : Partial → Option Partial → Partial
put_on p None = p
put_on p (Some q) = record { birth = q.birth; cells = cells_over p.cells q.cells }

abbrev pub with_put : Key → Partial → Contents → Contents
with_put key p m =
    record { puts = with_item key (put_on p (item_at key m.puts)) m.puts; cuts = m.cuts; held = m.held + 1 }

-- the later of two ends, of which the second may be missing
abbrev pub later_end : ℕ → Option ℕ → ℕ
later_end hi None = hi
later_end hi (Some other) = max hi other

-- A cut forgets the puts of its range. One whose first timestamp is beyond its last is counted alone.
abbrev pub with_cut : ℕ → ℕ → ℕ → Contents → Contents
with_cut table lo hi m =
    if nat_le lo hi
    then record {
      puts = pairs_without (key_at table lo) (key_at table hi) m.puts;
      cuts = with_item (key_at table lo) (later_end hi (item_at (key_at table lo) m.cuts)) m.cuts;
      held = m.held + 1;
    }
    else record { puts = m.puts; cuts = m.cuts; held = m.held + 1 }

-- the ranges of timestamps of a table's cuts, and those cuts
abbrev pub ranges_of : ℕ → List (Key × ℕ) → List (ℕ × ℕ)
ranges_of table cuts =
    map (λ (c : Key × ℕ). (c.0.ts, c.1)) (pairs_within (key_at table 0) (key_at table (2 ^ 64 - 1)) cuts)

abbrev pub table_cuts : ℕ → List (Key × ℕ) → List Cut
table_cuts table cuts = map (λ (r : ℕ × ℕ). record { table = table; lo = r.0; hi = r.1 }) (ranges_of table cuts)

-- the part of a key: whether it was cut, and its put since
abbrev pub part_at : Key → Contents → Part
part_at key m = record { cut = is_cut key (table_cuts key.table m.cuts); put = item_at key m.puts }

-- what holds of every memtable
pub record IsSound (m : Contents) : Type 0 where
  pub few : m.held ≤ MEMTABLE_PARTS
  pub puts : length m.puts ≤ m.held
  pub cuts : length m.cuts ≤ m.held
  pub cells : AllByRecursion (λ (e : Key × Partial). AreColumnCells e.1.cells) m.puts
  pub ends : AllByRecursion (λ (c : Key × ℕ). c.0.ts ≤ c.1) m.cuts
