-- The nearest day range, and the piece of a range of timestamps that it bounds.
use Rattle.std.proofs.Common.{◌≡◌, ◌≢◌, ◌⊎◌, inl, inr, ℕ, zero, suc, ◌+◌, ◌*◌, ◌≤◌, ◌<◌, false, ◌&&◌, leb, List, [], ◌∷◌, length, map, Option, Some, None, refl, sym, ap, ◌∙◌, subst, arith}
use Rattle.std.specs.Prelude.{slice_index, min}
use Rattle.std.specs.List.{AllByRecursion}
use Rattle.std.proofs.lemmas.Bool.Decides.{nat_tests}
use Rattle.td_limits.specs.declared.limits.TheConstants.{DAY_RANGE}
use Rattle.td_fileio.specs.Days.{day_start, day_end, is_in_day}
use Rattle.td_fileset.specs.Layered.{OpenSet, HaveOwnRanges}
use Rattle.td_fileset.specs.Pieces.{set_at, IsApart, AreApart, IsPiece, IsNearest}

abbrev pub ranges_of : List OpenSet → List ℕ
ranges_of sets = map (λ (s : OpenSet). s.range) sets

-- a range that ended before, or begins behind, is apart
ended : (range from hi : ℕ) → day_end range < from → (ts : ℕ) → from ≤ ts → ts ≤ hi → is_in_day range ts ≡ false
ended range from hi e ts a b = out (day_start range) (day_end range) ts (omega (arith, e, a))
  where
    out : (start end ts : ℕ) → end < ts → (leb start ts && leb ts end) ≡ false
    out start end ts h = grind (arith, nat_tests)

behind : (range other to : ℕ) → to ≤ day_end range → range < other → (ts : ℕ) → ts ≤ to → is_in_day other ts ≡ false
behind range other to e less ts b = out (day_start other) (day_end other) ts (omega (arith, e, b, steps range other less))
  where
    out : (start end ts : ℕ) → ts < start → (leb start ts && leb ts end) ≡ false
    out start end ts h = grind (arith, nat_tests)

    steps : (range other : ℕ) → range < other → range * DAY_RANGE + DAY_RANGE ≤ other * DAY_RANGE
    steps range other less = omega (arith, less)

none_apart : (from hi : ℕ) (sets : List OpenSet) → ((j : ℕ) → j < length sets → day_end (slice_index (ranges_of sets) j) < from) → AreApart from hi None sets
none_apart from hi [] h = tt
none_apart from hi (s ∷ ss) h = (ended s.range from hi (h 0 (omega arith)), none_apart from hi ss (λ j lt. h (suc j) (omega (arith, lt))))

-- where no other set has the nearest range, all others are apart
others_apart : (from to range : ℕ) (sets : List OpenSet) → to ≤ day_end range → AllByRecursion (λ (s : OpenSet). s.range ≢ range) sets
    → ((j : ℕ) → j < length sets → (day_end (slice_index (ranges_of sets) j) < from) ⊎ (range ≤ slice_index (ranges_of sets) j)) → AreApart from to None sets
others_apart from to range [] e other h = tt
others_apart from to range (s ∷ ss) e other h = (by (h 0 (omega arith)), others_apart from to range ss e other.1 (λ j lt. h (suc j) (omega (arith, lt))))
  where
    by : (day_end s.range < from) ⊎ (range ≤ s.range) → IsApart from to s
    by (inl before) = ended s.range from to before
    by (inr after) = λ ts a b. behind range s.range to e (strict range s.range after other.0) ts b
      where
        strict : (range r : ℕ) → range ≤ r → r ≢ range → range < r
        strict range r h n = omega (arith, h, n)

-- none of some sets has the range of one of them
own_elsewhere : (sets : List OpenSet) (range i : ℕ) (r : ℕ) → i < length sets → slice_index (ranges_of sets) i ≡ range → AllByRecursion (λ (s : OpenSet). s.range ≢ r) sets → r ≢ range
own_elsewhere [] range i r lt is h = absurd (omega (arith, lt))
own_elsewhere (s ∷ ss) range zero r lt is h = λ e. h.0 (is ∙ sym e)
own_elsewhere (s ∷ ss) range (suc i) r lt is h = own_elsewhere ss range i r (omega (arith, lt)) is h.1

one_apart : (from to range i : ℕ) (sets : List OpenSet) → to ≤ day_end range → HaveOwnRanges sets → i < length sets → slice_index (ranges_of sets) i ≡ range
    → ((j : ℕ) → j < length sets → (day_end (slice_index (ranges_of sets) j) < from) ⊎ (range ≤ slice_index (ranges_of sets) j)) → AreApart from to (Some i) sets
one_apart from to range i [] e own lt is h = tt
one_apart from to range zero (s ∷ ss) e own lt is h = others_apart from to range ss e (subst (λ n. AllByRecursion (λ (s : OpenSet). s.range ≢ n) ss) is own.0) (λ j lt. h (suc j) (omega (arith, lt)))
one_apart from to range (suc i) (s ∷ ss) e own lt is h = (by (h 0 (omega arith)), one_apart from to range i ss e own.1 (omega (arith, lt)) is (λ j lt. h (suc j) (omega (arith, lt))))
  where
    by : (day_end s.range < from) ⊎ (range ≤ s.range) → IsApart from to s
    by (inl before) = ended s.range from to before
    by (inr after) = λ ts a b. behind range s.range to e (strict range s.range after (own_elsewhere ss range i s.range (omega (arith, lt)) is own.0)) ts b
      where
        strict : (range r : ℕ) → range ≤ r → r ≢ range → range < r
        strict range r h n = omega (arith, h, n)

range_there : (sets : List OpenSet) (i range : ℕ) → i < length sets → slice_index (ranges_of sets) i ≡ range → (set_at sets (Some i)).range ≡ range
range_there [] i range lt is = absurd (omega (arith, lt))
range_there (s ∷ ss) zero range lt is = is
range_there (s ∷ ss) (suc i) range lt is = range_there ss i range (omega (arith, lt)) is

-- no range is near
pub none_near : (sets : List OpenSet) (from hi : ℕ) → from ≤ hi → IsNearest from (ranges_of sets) (length sets) None → IsPiece sets from hi hi None
none_near sets from hi h none = record { ahead = h; within = omega arith; number = tt; ends = tt; alone = none_apart from hi sets none }

-- the nearest range begins behind the timestamps
pub none_meets : (sets : List OpenSet) (from hi : ℕ) (p : ℕ × ℕ) → from ≤ hi → hi < day_start p.1 → IsNearest from (ranges_of sets) (length sets) (Some p) → IsPiece sets from hi hi None
none_meets sets from hi p h far near = record { ahead = h; within = omega arith; number = tt; ends = tt; alone = all sets near.3 }
  where
    starts : (range other : ℕ) → range ≤ other → range * DAY_RANGE ≤ other * DAY_RANGE
    starts range other le = omega (arith, le)

    out : (start end ts : ℕ) → ts < start → (leb start ts && leb ts end) ≡ false
    out start end ts h = grind (arith, nat_tests)

    by : (s : OpenSet) → (day_end s.range < from) ⊎ (p.1 ≤ s.range) → IsApart from hi s
    by s (inl before) = ended s.range from hi before
    by s (inr after) = λ ts a b. out (day_start s.range) (day_end s.range) ts (omega (arith, b, far, starts p.1 s.range after))

    all : (sets : List OpenSet) → ((j : ℕ) → j < length sets → (day_end (slice_index (ranges_of sets) j) < from) ⊎ (p.1 ≤ slice_index (ranges_of sets) j)) → AreApart from hi None sets
    all [] h = tt
    all (s ∷ ss) h = (by s (h 0 (omega arith)), all ss (λ j lt. h (suc j) (omega (arith, lt))))

-- the nearest range meets them
pub one_meets : (sets : List OpenSet) (from hi : ℕ) (p : ℕ × ℕ) → from ≤ hi → HaveOwnRanges sets → IsNearest from (ranges_of sets) (length sets) (Some p) → IsPiece sets from hi (min hi (day_end p.1)) (Some p.0)
one_meets sets from hi p h own near = record {
  ahead = omega (arith, h, near.2);
  within = omega arith;
  number = near.0;
  ends = subst (λ (r : ℕ). min hi (day_end p.1) ≤ day_end r) (sym (range_there sets p.0 p.1 near.0 near.1)) (omega arith);
  alone = one_apart from (min hi (day_end p.1)) p.1 p.0 sets (omega arith) own near.0 near.1 near.3;
}

-- ---- one range more

below_or_at : (j at : ℕ) → j < at + 1 → (j < at) ⊎ (j ≡ at)
below_or_at zero zero h = inr refl
below_or_at zero (suc at) h = inl (omega arith)
below_or_at (suc j) zero h = absurd (omega (arith, h))
below_or_at (suc j) (suc at) h = by (below_or_at j at (omega (arith, h)))
  where
    by : (j < at) ⊎ (j ≡ at) → (suc j < suc at) ⊎ (suc j ≡ suc at)
    by (inl less) = inl (omega (arith, less))
    by (inr same) = inr (ap suc same)

module _ (from at range : ℕ) (ranges : List ℕ) (there : slice_index ranges at ≡ range) where
  pub near_ended : (p : Option (ℕ × ℕ)) → day_end range < from → IsNearest from ranges at p → IsNearest from ranges (at + 1) p
  near_ended None e h = λ j lt. by j (below_or_at j at lt)
    where
      by : (j : ℕ) → (j < at) ⊎ (j ≡ at) → day_end (slice_index ranges j) < from
      by j (inl less) = h j less
      by j (inr same) = subst (λ n. day_end n < from) (sym (ap (slice_index ranges) same ∙ there)) e
  near_ended (Some p) e h = (omega (arith, h.0), h.1, h.2, λ j lt. by j (below_or_at j at lt))
    where
      by : (j : ℕ) → (j < at) ⊎ (j ≡ at) → (day_end (slice_index ranges j) < from) ⊎ (p.1 ≤ slice_index ranges j)
      by j (inl less) = h.3 j less
      by j (inr same) = inl (subst (λ n. day_end n < from) (sym (ap (slice_index ranges) same ∙ there)) e)

  pub near_first : from ≤ day_end range → IsNearest from ranges at None → IsNearest from ranges (at + 1) (Some (at, range))
  near_first e h = (omega arith, there, e, λ j lt. by j (below_or_at j at lt))
    where
      by : (j : ℕ) → (j < at) ⊎ (j ≡ at) → (day_end (slice_index ranges j) < from) ⊎ (range ≤ slice_index ranges j)
      by j (inl less) = inl (h j less)
      by j (inr same) = inr (subst (λ n. range ≤ n) (sym (ap (slice_index ranges) same ∙ there)) (omega arith))

  pub near_kept : (p : ℕ × ℕ) → p.1 ≤ range → IsNearest from ranges at (Some p) → IsNearest from ranges (at + 1) (Some p)
  near_kept p e h = (omega (arith, h.0), h.1, h.2, λ j lt. by j (below_or_at j at lt))
    where
      by : (j : ℕ) → (j < at) ⊎ (j ≡ at) → (day_end (slice_index ranges j) < from) ⊎ (p.1 ≤ slice_index ranges j)
      by j (inl less) = h.3 j less
      by j (inr same) = inr (subst (λ n. p.1 ≤ n) (sym (ap (slice_index ranges) same ∙ there)) e)

  pub near_less : (p : ℕ × ℕ) → range < p.1 → from ≤ day_end range → IsNearest from ranges at (Some p) → IsNearest from ranges (at + 1) (Some (at, range))
  near_less p less e h = (omega arith, there, e, λ j lt. by j (below_or_at j at lt))
    where
      both : (j : ℕ) → (day_end (slice_index ranges j) < from) ⊎ (p.1 ≤ slice_index ranges j) → (day_end (slice_index ranges j) < from) ⊎ (range ≤ slice_index ranges j)
      both j (inl before) = inl before
      both j (inr after) = inr (omega (arith, after, less))

      by : (j : ℕ) → (j < at) ⊎ (j ≡ at) → (day_end (slice_index ranges j) < from) ⊎ (range ≤ slice_index ranges j)
      by j (inl below) = both j (h.3 j below)
      by j (inr same) = inr (subst (λ n. range ≤ n) (sym (ap (slice_index ranges) same ∙ there)) (omega arith))
