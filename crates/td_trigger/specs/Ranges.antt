-- Ranges of timestamps, both ends included, and how they are put in order and joined.
use Rattle.std.specs.Prelude.{ℕ, ◌+◌, ◌<◌, ◌≤◌, min, max, nat_lt, nat_le, ◌==◌, Bool, ◌&&◌, ◌||◌, if◌then◌else◌, List, [], ◌∷◌}
use Rattle.std.specs.List.{AllByRecursion}
use Rattle.td_trigger.specs.declared.range.Range.{Range}

-- the timestamp lies in the range
abbrev pub holds : Range → ℕ → Bool
holds r t = nat_le r.lo t && nat_le t r.hi

-- the second range lies in the first
abbrev pub covers : Range → Range → Bool
covers r s = nat_le r.lo s.lo && nat_le s.hi r.hi

-- two ranges, and all between them
abbrev pub hull : Range → Range → Range
hull r s = record { lo = min r.lo s.lo; hi = max r.hi s.hi }

-- a range, widened to take in others
abbrev pub taking_in : Range → List Range → Range
taking_in r [] = r
taking_in r (s ∷ rest) = hull s (taking_in r rest)

-- ranges by their lower end, and by the upper one where that is equal
abbrev pub comes_first : Range → Range → Bool
comes_first r s = nat_lt r.lo s.lo || (r.lo == s.lo && nat_le r.hi s.hi)

abbrev pub put_in_order : Range → List Range → List Range
put_in_order r [] = r ∷ []
put_in_order r (s ∷ rest) = if comes_first r s then r ∷ s ∷ rest else s ∷ put_in_order r rest

abbrev pub in_order : List Range → List Range
in_order [] = []
in_order (r ∷ rest) = put_in_order r (in_order rest)

-- ranges in order, joined with one that goes before them: a range joins it where it begins at most so far above its end
abbrev pub joined_to : ℕ → Range → List Range → List Range
joined_to gap r [] = r ∷ []
joined_to gap r (s ∷ rest) =
    if nat_le s.lo (r.hi + gap) then joined_to gap (hull r s) rest else r ∷ joined_to gap s rest

abbrev pub joined : ℕ → List Range → List Range
joined gap [] = []
joined gap (r ∷ rest) = joined_to gap r rest

-- each range begins at or before its end
abbrev pub IsRange : Range → Type 0
IsRange r = r.lo ≤ r.hi

-- each range begins more than so far above the ends of those before it
abbrev pub AreApart : ℕ → List Range → Type 0
AreApart gap [] = Unit {0}
AreApart gap (r ∷ rest) = AllByRecursion (λ s. r.hi + gap < s.lo) rest × AreApart gap rest
