-- The least day ranges of which something is true.
use Rattle.std.specs.Prelude.{◌≡◌, ◌≤◌, ◌<◌, ◌^◌, ℕ, min, Bool, true, false, ◌&&◌, ◌||◌, ◌==◌, List, All, Option, Some, None}
use Rattle.std.specs.List.{list_any}
use Rattle.td_limits.specs.declared.limits.TheConstants.{LAST_TIMESTAMP, LAST_DAY_RANGE}
use Rattle.td_layer.specs.declared.values.Key.{Key}
use Rattle.td_layer.specs.declared.parts.Partial.{Partial}
use Rattle.td_memtable.specs.Contents.{Contents}
use Rattle.td_fileio.specs.Days.{is_in_day}
use Rattle.td_levels.specs.Levels.{SetFiles}
use Rattle.td_levels.specs.Ranges.{has_put_in, has_files, meets_cut}

-- the least number, from one on, that passes a test; none where none passes
abbrev pub LeastFrom : (ℕ → Bool) → ℕ → Option ℕ → Type 0
LeastFrom test from None = (n : ℕ) → from ≤ n → test n ≡ false
LeastFrom test from (Some least) =
    (from ≤ least) × (test least ≡ true) × ((n : ℕ) → from ≤ n → n < least → test n ≡ false)

-- a memtable has a put of a table in a day range
abbrev pub has_put_of : ℕ → ℕ → Contents → Bool
has_put_of table range m =
    list_any (λ (e : Key × Partial). (e.0.table == table) && is_in_day range e.0.ts) m.puts

-- a file set's day range is this one, which meets a cut of a memtable
abbrev pub is_cut_set : Contents → ℕ → ℕ → Bool
is_cut_set m range n = (range == n) && meets_cut n m

-- a day range has files and meets a cut of a memtable
abbrev pub has_cut_files : Contents → List SetFiles → ℕ → Bool
has_cut_files m sets range = has_files range sets && meets_cut range m

-- a day range gets a file of a memtable
abbrev pub gets_file : Contents → List SetFiles → ℕ → Bool
gets_file m sets range = has_put_in range m || has_cut_files m sets range

-- the earlier of two day ranges, of which each may be missing
abbrev pub earlier : Option ℕ → Option ℕ → Option ℕ
earlier None other = other
earlier (Some one) None = Some one
earlier (Some one) (Some other) = Some (min one other)

-- a put is of a table of the program's numbers, and in the range of time
abbrev pub IsTimely : Key × Partial → Type 0
IsTimely e = (e.0.ts ≤ LAST_TIMESTAMP) × (e.0.table < 2 ^ 32)

abbrev pub TimesFit : Contents → Type 0
TimesFit m = All IsTimely m.puts

-- the file sets are of day ranges
abbrev pub RangesFit : List SetFiles → Type 0
RangesFit sets = All (λ (s : SetFiles). s.range ≤ LAST_DAY_RANGE) sets
