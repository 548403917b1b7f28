-- What a commit writes of a memtable: for a day range and a table the puts there, and the cuts as far as they lie
-- there.
use Rattle.std.specs.Prelude.{◌≡◌, ℕ, ◌+◌, ◌-◌, ◌^◌, ◌<◌, ◌≤◌, min, max, nat_le, List, [], ◌∷◌, map, length, slice_get, Option, Some, None, if◌then◌else◌}
use Rattle.std.specs.List.{filter_map}
use Rattle.std.specs.Ordering.{nat_cmp}
use Rattle.td_layer.specs.declared.values.Key.{Key}
use Rattle.td_layer.specs.declared.parts.Partial.{Partial}
use Rattle.td_layer.specs.Keys.{RisesBy}
use Rattle.td_memtree.specs.Within.{pairs_within}
use Rattle.td_memtable.specs.Contents.{key_at, ranges_of}
use Rattle.td_memtable.specs.Joined.{IsJoinOf}
use Rattle.td_block.specs.Rows.{Rows}
use Rattle.td_fileio.specs.declared.lists.TableRows.{TableRows}
use Rattle.td_fileio.specs.Days.{day_start, day_end}
use Rattle.td_commit.specs.declared.frozen.Frozen.{Frozen}

-- pairs of keys as rows of timestamps
abbrev pub rows_of : List (Key × Partial) → Rows
rows_of puts = map (λ (e : Key × Partial). (e.0.ts, e.1)) puts

-- the puts of a table in a day range, and those as rows
abbrev pub puts_in_day : ℕ → ℕ → List (Key × Partial) → List (Key × Partial)
puts_in_day range table puts = pairs_within (key_at table (day_start range)) (key_at table (day_end range)) puts

abbrev pub rows_in_day : ℕ → ℕ → List (Key × Partial) → Rows
rows_in_day range table puts = rows_of (puts_in_day range table puts)

-- the part of a range of timestamps that lies in a day range, where there is one
abbrev pub clip : ℕ → ℕ × ℕ → Option (ℕ × ℕ)
clip range cut =
    (if nat_le (max cut.0 (day_start range)) (min cut.1 (day_end range))
    then Some (max cut.0 (day_start range), min cut.1 (day_end range)) else None)

abbrev pub clipped : ℕ → List (ℕ × ℕ) → List (ℕ × ℕ)
clipped range cuts = filter_map (clip range) cuts

-- Some ranges of timestamps, joined and clipped to a day range.
pub record AreCutsIn (range : ℕ) (ranges cuts : List (ℕ × ℕ)) : Type 0 where
  pub joined : List (ℕ × ℕ)
  pub join : IsJoinOf joined ranges
  pub cuts_are : cuts ≡ clipped range joined

-- What a file of a day range has of a table: the kinds of its number, its puts there as rows by timestamp, and its cuts
-- there. It has a row or a cut.
pub record IsTableIn (f : Frozen) (range : ℕ) (t : TableRows) : Type 0 where
  pub number : 1 ≤ t.table
  pub fits : t.table < 2 ^ 32
  pub kinds : slice_get f.kinds (t.table - 1) ≡ Some t.kinds
  pub rows : t.rows ≡ rows_in_day range t.table f.memtable.puts
  pub rising : RisesBy nat_cmp t.rows
  pub cuts : AreCutsIn range (ranges_of t.table f.memtable.cuts) t.cuts
  pub some : 0 < length t.rows + length t.cuts

-- a table has no put and no cut in a day range
pub record IsEmptyIn (f : Frozen) (range table : ℕ) : Type 0 where
  pub rows : puts_in_day range table f.memtable.puts ≡ []
  pub cuts : AreCutsIn range (ranges_of table f.memtable.cuts) []

-- the tables of these numbers, up to the second, have nothing in a day range
abbrev pub AreEmptyFrom : Frozen → ℕ → ℕ → ℕ → Type 0
AreEmptyFrom f range from to = (table : ℕ) → from ≤ table → table < to → IsEmptyIn f range table

-- What a file of a day range has of the tables from a number on: each table that has a row or a cut there, by number,
-- and no other.
abbrev pub AreTablesFrom : Frozen → ℕ → ℕ → List TableRows → Type 0
AreTablesFrom f range from [] = AreEmptyFrom f range from (2 ^ 32)
AreTablesFrom f range from (t ∷ ts) =
    (from ≤ t.table) × (AreEmptyFrom f range from t.table
    × (IsTableIn f range t × AreTablesFrom f range (t.table + 1) ts))
