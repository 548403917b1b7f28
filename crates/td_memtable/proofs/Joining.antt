-- Ranges in the order of their first timestamps are joined from the front.
use Rattle.std.proofs.Common.{◌≡◌, ℕ, ◌+◌, ◌<◌, ◌≤◌, max, nat_le, Bool, true, false, ◌&&◌, ◌||◌, if◌then◌else◌, List, [], ◌∷◌, ◌++◌, refl, sym, ap, ◌∙◌, append_assoc, arith}
use Rattle.std.proofs.lemmas.Bool.{leb-true, leb-false, le-leb, lt-leb}
use Rattle.std.proofs.lemmas.Bool.Decides.{nat_tests}
use Rattle.td_memtable.specs.Joined.{EndsBefore, AreJoined, lies_in_any}

-- the ranges joined, where the first is from lo to hi
abbrev pub join_on : ℕ → ℕ → List (ℕ × ℕ) → List (ℕ × ℕ)
join_on lo hi [] = (lo, hi) ∷ []
join_on lo hi (range ∷ ranges) = (if nat_le range.0 (hi + 1) then join_on lo (max hi range.1) ranges else (lo, hi) ∷ join_on range.0 range.1 ranges)

-- Each range has a first timestamp that is at most its last, and no first timestamp is before this one or falls.
abbrev pub RiseFrom : ℕ → List (ℕ × ℕ) → Type 0
RiseFrom lo [] = Unit {0}
RiseFrom lo (range ∷ ranges) = (lo ≤ range.0) × ((range.0 ≤ range.1) × RiseFrom range.0 ranges)

pub rise_from_less : (lo from : ℕ) (ranges : List (ℕ × ℕ)) → lo ≤ from → RiseFrom from ranges → RiseFrom lo ranges
rise_from_less lo from [] le up = tt
rise_from_less lo from (r ∷ rs) le up = (omega (arith, le, up.0), up.1)

ends_before : (range : ℕ × ℕ) (lo hi : ℕ) (ranges : List (ℕ × ℕ)) → range.1 + 1 < lo → EndsBefore range (join_on lo hi ranges)
ends_before range lo hi [] h = h
ends_before range lo hi (r ∷ rs) h = by (nat_le r.0 (hi + 1)) (ends_before range lo (max hi r.1) rs h)
  where
    by : (b : Bool) → EndsBefore range (join_on lo (max hi r.1) rs) → EndsBefore range (if b then join_on lo (max hi r.1) rs else (lo, hi) ∷ join_on r.0 r.1 rs)
    by true i = i
    by false i = h

pub are_joined : (lo hi : ℕ) (ranges : List (ℕ × ℕ)) → lo ≤ hi → RiseFrom lo ranges → AreJoined (join_on lo hi ranges)
are_joined lo hi [] le up = (le, (tt, tt))
are_joined lo hi (r ∷ rs) le up =
    by (nat_le r.0 (hi + 1)) refl (are_joined lo (max hi r.1) rs (omega (arith, le)) (rise_from_less lo r.0 rs up.0 up.1.1)) (are_joined r.0 r.1 rs up.1.0 up.1.1)
  where
    by : (b : Bool) → nat_le r.0 (hi + 1) ≡ b → AreJoined (join_on lo (max hi r.1) rs) → AreJoined (join_on r.0 r.1 rs) → AreJoined (if b then join_on lo (max hi r.1) rs else (lo, hi) ∷ join_on r.0 r.1 rs)
    by true is one other = one
    by false is one other = (le, (ends_before (lo, hi) r.0 r.1 rs (leb-false r.0 (hi + 1) is), other))

-- a timestamp is in a range that two make exactly where it is in one of the two
two_in_one : (ts lo hi from to : ℕ) → lo ≤ hi → lo ≤ from → from ≤ hi + 1 → from ≤ to → (nat_le lo ts && nat_le ts (max hi to)) ≡ ((nat_le lo ts && nat_le ts hi) || (nat_le from ts && nat_le ts to))
two_in_one ts lo hi from to a b c d = grind (arith, nat_tests)

or_assoc : (a b c : Bool) → ((a || b) || c) ≡ (a || (b || c))
or_assoc true b c = refl
or_assoc false b c = refl

pub same_in_joined : (ts lo hi : ℕ) (ranges : List (ℕ × ℕ)) → lo ≤ hi → RiseFrom lo ranges → lies_in_any ts (join_on lo hi ranges) ≡ lies_in_any ts ((lo, hi) ∷ ranges)
same_in_joined ts lo hi [] le up = refl
same_in_joined ts lo hi (r ∷ rs) le up =
    by (nat_le r.0 (hi + 1)) refl (same_in_joined ts lo (max hi r.1) rs (omega (arith, le)) (rise_from_less lo r.0 rs up.0 up.1.1)) (same_in_joined ts r.0 r.1 rs up.1.0 up.1.1)
  where
    by : (b : Bool) → nat_le r.0 (hi + 1) ≡ b → lies_in_any ts (join_on lo (max hi r.1) rs) ≡ lies_in_any ts ((lo, max hi r.1) ∷ rs) → lies_in_any ts (join_on r.0 r.1 rs) ≡ lies_in_any ts (r ∷ rs) → lies_in_any ts (if b then join_on lo (max hi r.1) rs else (lo, hi) ∷ join_on r.0 r.1 rs) ≡ lies_in_any ts ((lo, hi) ∷ r ∷ rs)
    by true is one other =
        one ∙ ap (λ b. b || lies_in_any ts rs) (two_in_one ts lo hi r.0 r.1 le up.0 (leb-true r.0 (hi + 1) is) up.1.0)
        ∙ or_assoc (nat_le lo ts && nat_le ts hi) (nat_le r.0 ts && nat_le ts r.1) (lies_in_any ts rs)
    by false is one other = ap (λ b. (nat_le lo ts && nat_le ts hi) || b) other

abbrev pub joined : List (ℕ × ℕ) → List (ℕ × ℕ)
joined [] = []
joined (range ∷ ranges) = join_on range.0 range.1 ranges

pub all_joined : (ranges : List (ℕ × ℕ)) → RiseFrom 0 ranges → AreJoined (joined ranges)
all_joined [] up = tt
all_joined (r ∷ rs) up = are_joined r.0 r.1 rs up.1.0 up.1.1

pub all_in_joined : (ts : ℕ) (ranges : List (ℕ × ℕ)) → RiseFrom 0 ranges → lies_in_any ts (joined ranges) ≡ lies_in_any ts ranges
all_in_joined ts [] up = refl
all_in_joined ts (r ∷ rs) up = same_in_joined ts r.0 r.1 rs up.1.0 up.1.1

-- What is done, the range at hand and the ranges that are left are joined as all ranges are.
pub record Joins (done : List (ℕ × ℕ)) (lo hi : ℕ) (left all : List (ℕ × ℕ)) : Type 0 where
  pub order : lo ≤ hi
  pub rise : RiseFrom lo left
  pub whole : done ++ join_on lo hi left ≡ joined all

pub joins_first : (range : ℕ × ℕ) (left : List (ℕ × ℕ)) → RiseFrom 0 (range ∷ left) → Joins [] range.0 range.1 left (range ∷ left)
joins_first range left up = record { order = up.1.0; rise = up.1.1; whole = refl }

pub joins_in : (done : List (ℕ × ℕ)) (lo hi : ℕ) (r : ℕ × ℕ) (rs all : List (ℕ × ℕ)) → Joins done lo hi (r ∷ rs) all → r.0 ≤ hi + 1 → Joins done lo (max hi r.1) rs all
joins_in done lo hi r rs all j h = record {
  order = omega (arith, j.order);
  rise = rise_from_less lo r.0 rs j.rise.0 j.rise.1.1;
  whole = ap (λ (b : Bool). done ++ (if b then join_on lo (max hi r.1) rs else (lo, hi) ∷ join_on r.0 r.1 rs)) (sym (le-leb r.0 (hi + 1) h)) ∙ j.whole;
}

pub joins_out : (done : List (ℕ × ℕ)) (lo hi : ℕ) (r : ℕ × ℕ) (rs all : List (ℕ × ℕ)) → Joins done lo hi (r ∷ rs) all → hi + 1 < r.0 → Joins (done ++ (lo, hi) ∷ []) r.0 r.1 rs all
joins_out done lo hi r rs all j h = record {
  order = j.rise.1.0;
  rise = j.rise.1.1;
  whole = append_assoc done ((lo, hi) ∷ []) (join_on r.0 r.1 rs)
      ∙ ap (λ (b : Bool). done ++ (if b then join_on lo (max hi r.1) rs else (lo, hi) ∷ join_on r.0 r.1 rs)) (sym (lt-leb r.0 (hi + 1) h)) ∙ j.whole;
}
