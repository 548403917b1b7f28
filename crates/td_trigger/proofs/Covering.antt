-- What is true of ranges put in order and joined, by what is true of each.
use Rattle.std.proofs.Common.{◌≡◌, ◌⊎◌, ℕ, ◌+◌, ◌<◌, ◌≤◌, Bool, true, false, ◌&&◌, cond, List, [], ◌∷◌, refl, arith, leb, inl, inr}
use Rattle.std.proofs.lemmas.Bool.{leb-true, leb-false, le-leb, and_parts, and_from, or_cases, or_left, or_right}
use Rattle.std.specs.List.{AllByRecursion, list_any}
use Rattle.td_trigger.specs.declared.range.Range.{Range}
use Rattle.td_trigger.specs.Ranges.{hull, comes_first, put_in_order, in_order, joined_to, joined, IsRange, AreApart}
use Rattle.td_trigger.proofs.Lists.{each_weaker}
use Rattle.td_trigger.proofs.Sorting.{Le, InOrder, all_ordered, put_each}

-- ---- a range of the list takes in all from one timestamp to another
abbrev pub Within : ℕ → ℕ → List Range → Type 0
Within a b [] = ⊥
Within a b (r ∷ rs) = ((r.lo ≤ a) × (b ≤ r.hi)) ⊎ Within a b rs

module _ (a b : ℕ) where
  pub within_any : (rs : List Range) → Within a b rs → list_any (λ r. leb r.lo a && leb b r.hi) rs ≡ true
  within_any [] h = absurd h
  within_any (r ∷ rs) (inl h) = or_left (leb r.lo a && leb b r.hi) (list_any (λ r. leb r.lo a && leb b r.hi) rs) (and_from (leb r.lo a) (leb b r.hi) (le-leb r.lo a h.0) (le-leb b r.hi h.1))
  within_any (r ∷ rs) (inr h) = or_right (leb r.lo a && leb b r.hi) (list_any (λ r. leb r.lo a && leb b r.hi) rs) (within_any rs h)

  pub any_within : (rs : List Range) → list_any (λ r. leb r.lo a && leb b r.hi) rs ≡ true → Within a b rs
  any_within [] h = cc
  any_within (r ∷ rs) h = go (λ k. any_within rs k) (or_cases (leb r.lo a && leb b r.hi) (list_any (λ r. leb r.lo a && leb b r.hi) rs) h)
    where
      go : (list_any (λ r. leb r.lo a && leb b r.hi) rs ≡ true → Within a b rs) → ((leb r.lo a && leb b r.hi) ≡ true) ⊎ (list_any (λ r. leb r.lo a && leb b r.hi) rs ≡ true) → Within a b (r ∷ rs)
      go rest (inl k) = let p = and_parts (leb r.lo a) (leb b r.hi) k in inl (leb-true r.lo a p.0, leb-true b r.hi p.1)
      go rest (inr k) = inr (rest k)

  within_put : (r : Range) (rs : List Range) → Within a b (r ∷ rs) → Within a b (put_in_order r rs)
  within_put r [] h = h
  within_put r (s ∷ rs) h = elim (comes_first r s) as (λ t. Within a b (cond t (r ∷ s ∷ rs) (s ∷ put_in_order r rs))) [ true ↦ h | false ↦ second h (λ k. within_put r rs k) ]
    where
      second : ((r.lo ≤ a) × (b ≤ r.hi)) ⊎ (((s.lo ≤ a) × (b ≤ s.hi)) ⊎ Within a b rs) → (Within a b (r ∷ rs) → Within a b (put_in_order r rs)) → Within a b (s ∷ put_in_order r rs)
      second (inl k) rest = inr (rest (inl k))
      second (inr (inl k)) rest = inl k
      second (inr (inr k)) rest = inr (rest (inr k))

  within_ordered : (rs : List Range) → Within a b rs → Within a b (in_order rs)
  within_ordered [] h = h
  within_ordered (r ∷ rs) (inl h) = within_put r (in_order rs) (inl h)
  within_ordered (r ∷ rs) (inr h) = within_put r (in_order rs) (inr (within_ordered rs h))

  within_joined_to : (gap : ℕ) (r : Range) (rs : List Range) → Within a b (r ∷ rs) → Within a b (joined_to gap r rs)
  within_joined_to gap r [] h = h
  within_joined_to gap r (s ∷ rs) h =
      elim (leb s.lo (r.hi + gap)) as (λ t. Within a b (cond t (joined_to gap (hull r s) rs) (r ∷ joined_to gap s rs))) [
        | true ↦ within_joined_to gap (hull r s) rs (both h)
        | false ↦ apart h (λ k. within_joined_to gap s rs k)
      ]
    where
      both : ((r.lo ≤ a) × (b ≤ r.hi)) ⊎ (((s.lo ≤ a) × (b ≤ s.hi)) ⊎ Within a b rs) → Within a b (hull r s ∷ rs)
      both (inl k) = let l = k.0 in let u = k.1 in inl (omega arith, omega arith)
      both (inr (inl k)) = let l = k.0 in let u = k.1 in inl (omega arith, omega arith)
      both (inr (inr k)) = inr k

      apart : ((r.lo ≤ a) × (b ≤ r.hi)) ⊎ Within a b (s ∷ rs) → (Within a b (s ∷ rs) → Within a b (joined_to gap s rs)) → Within a b (r ∷ joined_to gap s rs)
      apart (inl k) rest = inl k
      apart (inr k) rest = inr (rest k)

  -- what a range takes in, a region does
  pub within_region : (gap : ℕ) (rs : List Range) → Within a b rs → Within a b (joined gap (in_order rs))
  within_region gap rs h = go (in_order rs) (within_ordered rs h)
    where
      go : (ss : List Range) → Within a b ss → Within a b (joined gap ss)
      go [] k = k
      go (s ∷ ss) k = within_joined_to gap s ss k

-- ---- regions are apart, and each begins at or before its end
lowest_later : (m : ℕ) (gap : ℕ) (r : Range) (rs : List Range) → m ≤ r.lo → AllByRecursion (λ s. m ≤ s.lo) rs → AllByRecursion (λ s. m ≤ s.lo) (joined_to gap r rs)
lowest_later m gap r [] h k = (h, tt)
lowest_later m gap r (s ∷ rs) h k =
    let l = k.0 in
    elim (leb s.lo (r.hi + gap)) as (λ t. AllByRecursion (λ s. m ≤ s.lo) (cond t (joined_to gap (hull r s) rs) (r ∷ joined_to gap s rs))) [
      | true ↦ lowest_later m gap (hull r s) rs (omega arith) k.1
      | false ↦ (h, lowest_later m gap s rs l k.1)
    ]

apart_joined_to : (gap : ℕ) (r : Range) (rs : List Range) → AllByRecursion (λ s. r.lo ≤ s.lo) rs → InOrder rs → AreApart gap (joined_to gap r rs)
unfolding InOrder
apart_joined_to gap r [] h k = (tt, tt)
apart_joined_to gap r (s ∷ rs) h k = go (λ l. apart_joined_to gap (hull r s) rs l k.1) (λ l. apart_joined_to gap s rs l k.1) (leb s.lo (r.hi + gap)) refl
  where
    later : AllByRecursion (λ u. s.lo ≤ u.lo) rs
    later = each_weaker (Le s) (λ u. s.lo ≤ u.lo) (λ u l. l.lo) rs k.0

    go : (AllByRecursion (λ u. (hull r s).lo ≤ u.lo) rs → AreApart gap (joined_to gap (hull r s) rs)) → (AllByRecursion (λ u. s.lo ≤ u.lo) rs → AreApart gap (joined_to gap s rs)) → (t : Bool) → leb s.lo (r.hi + gap) ≡ t → AreApart gap (joined_to gap r (s ∷ rs))
    go joins parts true e = rw e (joins (each_weaker (λ u. r.lo ≤ u.lo) (λ u. (hull r s).lo ≤ u.lo) (λ u l. omega arith) rs h.1))
    go joins parts false e =
        let l = leb-false s.lo (r.hi + gap) e in
        rw e (each_weaker (λ u. s.lo ≤ u.lo) (λ u. r.hi + gap < u.lo) (λ u m. omega arith) (joined_to gap s rs) (lowest_later s.lo gap s rs (omega arith) later), parts later)

pub regions_apart : (gap : ℕ) (rs : List Range) → AreApart gap (joined gap (in_order rs))
unfolding InOrder
regions_apart gap rs = go (in_order rs) (all_ordered rs)
  where
    go : (ss : List Range) → InOrder ss → AreApart gap (joined gap ss)
    go [] k = tt
    go (s ∷ ss) k = apart_joined_to gap s ss (each_weaker (Le s) (λ u. s.lo ≤ u.lo) (λ u l. l.lo) ss k.0) k.1

-- ---- what two ranges and what is between them share
module _ (P : Range → Type 0) (both : (r s : Range) → P r → P s → P (hull r s)) where
  each_joined_to : (gap : ℕ) (r : Range) (rs : List Range) → P r → AllByRecursion P rs → AllByRecursion P (joined_to gap r rs)
  each_joined_to gap r [] h k = (h, tt)
  each_joined_to gap r (s ∷ rs) h k =
      elim (leb s.lo (r.hi + gap)) as (λ t. AllByRecursion P (cond t (joined_to gap (hull r s) rs) (r ∷ joined_to gap s rs))) [
        | true ↦ each_joined_to gap (hull r s) rs (both r s h k.0) k.1
        | false ↦ (h, each_joined_to gap s rs k.0 k.1)
      ]

  each_ordered : (rs : List Range) → AllByRecursion P rs → AllByRecursion P (in_order rs)
  each_ordered [] h = tt
  each_ordered (r ∷ rs) h = put_each P r (in_order rs) h.0 (each_ordered rs h.1)

  pub each_region : (gap : ℕ) (rs : List Range) → AllByRecursion P rs → AllByRecursion P (joined gap (in_order rs))
  each_region gap rs h = go (in_order rs) (each_ordered rs h)
    where
      go : (ss : List Range) → AllByRecursion P ss → AllByRecursion P (joined gap ss)
      go [] k = tt
      go (s ∷ ss) k = each_joined_to gap s ss k.0 k.1

pub regions_are_ranges : (gap : ℕ) (rs : List Range) → AllByRecursion IsRange rs → AllByRecursion IsRange (joined gap (in_order rs))
regions_are_ranges = each_region IsRange (λ r s h k. omega arith)

-- ---- what a range and what it is joined with take over from it
module _ (P : Range → Type 0) (parts : (r s : Range) → P (hull r s) → P r × P s) where
  back_from_joined_to : (gap : ℕ) (r : Range) (rs : List Range) → AllByRecursion P (joined_to gap r rs) → P r × AllByRecursion P rs
  back_from_joined_to gap r [] h = (h.0, tt)
  back_from_joined_to gap r (s ∷ rs) h = go (λ k. back_from_joined_to gap (hull r s) rs k) (λ k. back_from_joined_to gap s rs k) (leb s.lo (r.hi + gap)) refl
    where
      go : (AllByRecursion P (joined_to gap (hull r s) rs) → P (hull r s) × AllByRecursion P rs) → (AllByRecursion P (joined_to gap s rs) → P s × AllByRecursion P rs) → (t : Bool) → leb s.lo (r.hi + gap) ≡ t → P r × AllByRecursion P (s ∷ rs)
      go joins begins true e = let k = joins (rw e at h) in let p = parts r s k.0 in (p.0, (p.1, k.1))
      go joins begins false e = let k = rw e at h in let q = begins k.1 in (k.0, (q.0, q.1))

  back_from_put : (r : Range) (rs : List Range) → AllByRecursion P (put_in_order r rs) → P r × AllByRecursion P rs
  back_from_put r [] h = (h.0, tt)
  back_from_put r (s ∷ rs) h = go (λ k. back_from_put r rs k) (comes_first r s) refl
    where
      go : (AllByRecursion P (put_in_order r rs) → P r × AllByRecursion P rs) → (t : Bool) → comes_first r s ≡ t → P r × AllByRecursion P (s ∷ rs)
      go rest true e = let k = rw e at h in (k.0, k.1)
      go rest false e = let k = rw e at h in let q = rest k.1 in (q.0, (k.0, q.1))

  back_from_order : (rs : List Range) → AllByRecursion P (in_order rs) → AllByRecursion P rs
  back_from_order [] h = tt
  back_from_order (r ∷ rs) h = let k = back_from_put r (in_order rs) h in (k.0, back_from_order rs k.1)

  pub back_from_region : (gap : ℕ) (rs : List Range) → AllByRecursion P (joined gap (in_order rs)) → AllByRecursion P rs
  back_from_region gap rs h = back_from_order rs (go (in_order rs) h)
    where
      go : (ss : List Range) → AllByRecursion P (joined gap ss) → AllByRecursion P ss
      go [] k = tt
      go (s ∷ ss) k = back_from_joined_to gap s ss k
