-- Ranges of timestamps that are joined, and the timestamps that lie in them.
use Rattle.std.specs.Prelude.{◌≡◌, ℕ, ◌+◌, ◌<◌, ◌≤◌, nat_le, Bool, ◌&&◌, List, [], ◌∷◌}
use Rattle.std.specs.List.{list_any}

-- the next of some ranges begins behind the end of a range, and doesn't adjoin it
abbrev pub EndsBefore : ℕ × ℕ → List (ℕ × ℕ) → Type 0
EndsBefore range [] = Unit {0}
EndsBefore range (next ∷ ranges) = range.1 + 1 < next.0

-- Each range has a first timestamp that is at most its last; the ranges rise, and no two of them overlap or adjoin.
abbrev pub AreJoined : List (ℕ × ℕ) → Type 0
AreJoined [] = Unit {0}
AreJoined (range ∷ ranges) = (range.0 ≤ range.1) × (EndsBefore range ranges × AreJoined ranges)

-- whether a timestamp is in one of the ranges
abbrev pub lies_in_any : ℕ → List (ℕ × ℕ) → Bool
lies_in_any ts ranges = list_any (λ range. nat_le range.0 ts && nat_le ts range.1) ranges

-- Ranges that are joined, and take in exactly the timestamps that lie in some other ranges.
pub record IsJoinOf (ranges others : List (ℕ × ℕ)) : Type 0 where
  pub joined : AreJoined ranges
  pub same : (ts : ℕ) → lies_in_any ts ranges ≡ lies_in_any ts others
