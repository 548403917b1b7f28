-- Pairs on both sides of a key, without the pair of a key.
use Rattle.std.proofs.Common.{◌≡◌, suc, ◌+◌, ◌≤◌, Bool, true, false, cond, List, [], ◌∷◌, ◌++◌, length, refl, ap, arith}
use Rattle.std.specs.Ordering.{is_eq}
use Rattle.std.specs.Map.{remove_entry}
use Rattle.std.specs.BTreeMap.{is_at}
use Rattle.std.specs.declared.cmp.Ordering.{Ordering}
use Rattle.td_layer.specs.Keys.{AllAfter, RisesBy}
use Rattle.td_memtree.specs.Parts.{AllBefore, AllFrom}

module _ {K X : Type 0} (R : K → K → Ordering) where
  pub take_none : (m : List (K × X)) (k : K) → AllAfter R k m → remove_entry (is_at (R k)) m ≡ m
  take_none [] k a = refl
  take_none (x ∷ m) k a = rw a.0 (ap (λ t. x ∷ t) (take_none m k a.1))

  pub take_front : (l m : List (K × X)) (k : K) → AllAfter R k m → remove_entry (is_at (R k)) (l ++ m) ≡ remove_entry (is_at (R k)) l ++ m
  take_front [] m k a = take_none m k a
  take_front (x ∷ l) m k a = by (is_eq (R k x.0)) (take_front l m k a)
    where
      by : (b : Bool) → remove_entry (is_at (R k)) (l ++ m) ≡ remove_entry (is_at (R k)) l ++ m → cond b (l ++ m) (x ∷ remove_entry (is_at (R k)) (l ++ m)) ≡ cond b l (x ∷ remove_entry (is_at (R k)) l) ++ m
      by true i = refl
      by false i = ap (λ t. x ∷ t) i

  pub take_back : (l m : List (K × X)) (k : K) → AllBefore R k l → remove_entry (is_at (R k)) (l ++ m) ≡ l ++ remove_entry (is_at (R k)) m
  take_back [] m k b = refl
  take_back (x ∷ l) m k b = rw b.0 (ap (λ t. x ∷ t) (take_back l m k b.1))

  after_take : (j : K) (l : List (K × X)) (k : K) → AllAfter R j l → AllAfter R j (remove_entry (is_at (R k)) l)
  after_take j [] k a = tt
  after_take j (x ∷ l) k a = by (is_eq (R k x.0)) (after_take j l k a.1)
    where
      by : (b : Bool) → AllAfter R j (remove_entry (is_at (R k)) l) → AllAfter R j (cond b l (x ∷ remove_entry (is_at (R k)) l))
      by true i = a.1
      by false i = (a.0, i)

  pub rises_take : (l : List (K × X)) (k : K) → RisesBy R l → RisesBy R (remove_entry (is_at (R k)) l)
  rises_take [] k s = tt
  rises_take (x ∷ l) k s = by (is_eq (R k x.0)) (rises_take l k s.1)
    where
      by : (b : Bool) → RisesBy R (remove_entry (is_at (R k)) l) → RisesBy R (cond b l (x ∷ remove_entry (is_at (R k)) l))
      by true i = s.1
      by false i = (after_take x.0 l k s.0, i)

  pub length_take : (l : List (K × X)) (k : K) → (length (remove_entry (is_at (R k)) l) ≤ length l) × (length l ≤ length (remove_entry (is_at (R k)) l) + 1)
  length_take [] k = (omega arith, omega arith)
  length_take (x ∷ l) k = by (is_eq (R k x.0)) (length_take l k)
    where
      by : (b : Bool) → (length (remove_entry (is_at (R k)) l) ≤ length l) × (length l ≤ length (remove_entry (is_at (R k)) l) + 1) → (length (cond b l (x ∷ remove_entry (is_at (R k)) l)) ≤ suc (length l)) × (suc (length l) ≤ length (cond b l (x ∷ remove_entry (is_at (R k)) l)) + 1)
      by true i = (omega arith, omega arith)
      by false i = (omega (arith, i.0), omega (arith, i.1))

  pub before_take : (j : K) (l : List (K × X)) (k : K) → AllBefore R j l → AllBefore R j (remove_entry (is_at (R k)) l)
  before_take j [] k a = tt
  before_take j (x ∷ l) k a = by (is_eq (R k x.0)) (before_take j l k a.1)
    where
      by : (b : Bool) → AllBefore R j (remove_entry (is_at (R k)) l) → AllBefore R j (cond b l (x ∷ remove_entry (is_at (R k)) l))
      by true i = a.1
      by false i = (a.0, i)

  pub from_take : (j : K) (l : List (K × X)) (k : K) → AllFrom R j l → AllFrom R j (remove_entry (is_at (R k)) l)
  from_take j [] k a = tt
  from_take j (x ∷ l) k a = by (is_eq (R k x.0)) (from_take j l k a.1)
    where
      by : (b : Bool) → AllFrom R j (remove_entry (is_at (R k)) l) → AllFrom R j (cond b l (x ∷ remove_entry (is_at (R k)) l))
      by true i = a.1
      by false i = (a.0, i)
