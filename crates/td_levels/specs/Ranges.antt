-- The day ranges for which a frozen memtable is written to a file, and the file sets with those files.
use Rattle.std.specs.Prelude.{◌≡◌, ◌≤◌, ◌⊎◌, ◌↔◌, ◌<◌, ℕ, Bool, true, ◌&&◌, ◌==◌, nat_lt, nat_le, cond, List, [], ◌∷◌, filter, None, Contains}
use Rattle.std.specs.List.{list_any}
use Rattle.td_layer.specs.declared.values.Key.{Key}
use Rattle.td_layer.specs.declared.parts.Partial.{Partial}
use Rattle.td_memtable.specs.Contents.{Contents}
use Rattle.td_fileio.specs.Days.{day_start, day_end, is_in_day}
use Rattle.td_commit.specs.Sound.{Rise}
use Rattle.td_levels.specs.Levels.{SetFiles, Levels}

-- a memtable has a put in a day range
abbrev pub has_put_in : ℕ → Contents → Bool
has_put_in range m = list_any (λ (e : Key × Partial). is_in_day range e.0.ts) m.puts

-- a cut of a memtable meets a day range, whatever table it is of
abbrev pub meets_cut : ℕ → Contents → Bool
meets_cut range m = list_any (λ (c : Key × ℕ). nat_le c.0.ts (day_end range) && nat_le (day_start range) c.1) m.cuts

-- a day range has files
abbrev pub has_files : ℕ → List SetFiles → Bool
has_files range sets = list_any (λ (s : SetFiles). s.range == range) sets

-- A day range gets a file of a frozen memtable: it is at or above the edge, and it has a put of the memtable, or has
-- files and meets one of its cuts.
abbrev pub GetsFile : Contents → List SetFiles → ℕ → ℕ → Type 0
GetsFile m sets edge range =
    (edge ≤ range)
    × ((has_put_in range m ≡ true) ⊎ ((has_files range sets ≡ true) × (meets_cut range m ≡ true)))

-- these are the day ranges that get a file, rising
pub record AreRangesOf (m : Contents) (sets : List SetFiles) (edge : ℕ) (ranges : List ℕ) : Type 0 where
  pub rise : Rise ranges
  pub each : (range : ℕ) → Contains ranges range ↔ GetsFile m sets edge range

-- sets with one more stt file in a day range, which is the newest there; the sets stand by day range
abbrev pub with_file : ℕ → ℕ → List SetFiles → List SetFiles
with_file range file [] = record { range = range; stt = file ∷ []; main = None } ∷ []
with_file range file (s ∷ ss) =
    cond (s.range == range) (record { range = range; stt = file ∷ s.stt; main = s.main } ∷ ss)
    (cond (nat_lt range s.range) (record { range = range; stt = file ∷ []; main = None } ∷ s ∷ ss)
    (s ∷ with_file range file ss))

-- sets with a file more for each of some day ranges
abbrev pub with_files : List ℕ → List ℕ → List SetFiles → List SetFiles
with_files [] files sets = sets
with_files (range ∷ ranges) [] sets = sets
with_files (range ∷ ranges) (file ∷ files) sets = with_files ranges files (with_file range file sets)

-- the sets that aren't wholly below an edge
abbrev pub sets_from : ℕ → List SetFiles → List SetFiles
sets_from edge sets = filter (λ (s : SetFiles). nat_le edge s.range) sets

-- the sets stand by day range, each once
abbrev pub AreByRange : List SetFiles → Type 0
AreByRange [] = Unit {0}
AreByRange (s ∷ []) = Unit {0}
AreByRange (s ∷ t ∷ ss) = (s.range < t.range) × AreByRange (t ∷ ss)

-- the file sets of a plan from one timestamp to another: at or above the edge, with a day range that meets them
abbrev pub sets_meeting : ℕ → ℕ → ℕ → List SetFiles → List SetFiles
sets_meeting edge lo hi sets =
    filter
    (λ (s : SetFiles). nat_le edge s.range && (nat_le (day_start s.range) hi && nat_le lo (day_end s.range))) sets

-- the frozen memtable is gone, and its files stand in the sets, of which those wholly below an edge are left out
abbrev pub installed : List ℕ → List ℕ → ℕ → Levels → Levels
installed ranges files edge l =
    record { active = l.active; frozen = None; sets = sets_from edge (with_files ranges files l.sets) }
