-- Pieces of a range of timestamps, of which each meets the day range of at most one file set.
use Rattle.std.specs.Prelude.{◌≡◌, ℕ, zero, suc, ◌<◌, ◌≤◌, max, ◌⊎◌, false, List, [], ◌∷◌, length, slice_index, Option, Some, None}
use Rattle.td_layer.specs.Scans.{Places}
use Rattle.td_memtable.specs.Contents.{Contents}
use Rattle.td_fileio.specs.Days.{day_start, day_end, is_in_day}
use Rattle.td_fileset.specs.Stack.{Layer}
use Rattle.td_fileset.specs.Layered.{OpenSet, Span}
use Rattle.td_fileset.specs.Opened.{span_layers, span_places}

-- a set of no file
abbrev pub no_set : OpenSet
no_set = record { range = 0; stt = []; main = None }

-- the set with a number, counted from 0, or the set of no file
abbrev pub set_at : List OpenSet → Option ℕ → OpenSet
set_at sets None = no_set
set_at [] (Some i) = no_set
set_at (s ∷ ss) (Some zero) = s
set_at (s ∷ ss) (Some (suc i)) = set_at ss (Some i)

-- the part of a span in a set's day range, where the span doesn't end behind that
abbrev pub own_span : Span → OpenSet → Span
own_span span s =
    record { table = span.table; kinds = span.kinds; lo = max span.lo (day_start s.range); hi = span.hi }

-- the layers and the damaged places of memtables and of one of some sets in a span
abbrev pub piece_layers : List Contents → List OpenSet → Option ℕ → Span → Option (List Layer)
piece_layers ms sets set span = span_layers ms (set_at sets set) span (own_span span (set_at sets set))

abbrev pub piece_places : List Contents → List OpenSet → Option ℕ → Span → Option Places
piece_places ms sets set span = span_places ms (set_at sets set) (own_span span (set_at sets set))

-- no timestamp from one to another lies in a set's day range
abbrev pub IsApart : ℕ → ℕ → OpenSet → Type 0
IsApart lo hi s = (ts : ℕ) → lo ≤ ts → ts ≤ hi → is_in_day s.range ts ≡ false

-- each of some sets is apart, but for the one with this number
abbrev pub AreApart : ℕ → ℕ → Option ℕ → List OpenSet → Type 0
AreApart lo hi set [] = Unit {0}
AreApart lo hi None (s ∷ ss) = IsApart lo hi s × AreApart lo hi None ss
AreApart lo hi (Some zero) (s ∷ ss) = AreApart lo hi None ss
AreApart lo hi (Some (suc i)) (s ∷ ss) = IsApart lo hi s × AreApart lo hi (Some i) ss

-- a number of one of some sets, or none
abbrev pub IsNumberOf : List OpenSet → Option ℕ → Type 0
IsNumberOf sets None = Unit {0}
IsNumberOf sets (Some i) = i < length sets

-- the timestamps don't end behind the set's day range, where there is a set
abbrev pub EndsWithin : ℕ → List OpenSet → Option ℕ → Type 0
EndsWithin to sets None = Unit {0}
EndsWithin to sets (Some i) = to ≤ day_end (set_at sets (Some i)).range

-- The first piece of a range of timestamps: it begins where that does, and meets the day range of the set with this
-- number alone, or of none.
pub record IsPiece (sets : List OpenSet) (from hi to : ℕ) (set : Option ℕ) : Type 0 where
  pub ahead : from ≤ to
  pub within : to ≤ hi
  pub number : IsNumberOf sets set
  pub ends : EndsWithin to sets set
  pub alone : AreApart from to set sets

-- Of the first of some day ranges, the least that doesn't end before a timestamp, with its number; none, where each
-- ends before it.
abbrev pub IsNearest : ℕ → List ℕ → ℕ → Option (ℕ × ℕ) → Type 0
IsNearest from ranges n None = (j : ℕ) → j < n → day_end (slice_index ranges j) < from
IsNearest from ranges n (Some p) =
    (p.0 < n) × (slice_index ranges p.0 ≡ p.1) × (from ≤ day_end p.1)
    × ((j : ℕ) → j < n → (day_end (slice_index ranges j) < from) ⊎ (p.1 ≤ slice_index ranges j))
