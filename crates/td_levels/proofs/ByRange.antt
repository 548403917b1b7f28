-- File sets that stand by day range, each once.
use Rattle.std.proofs.Common.{◌≡◌, ℕ, ◌<◌, ◌≤◌, ◌==◌, nat_lt, Bool, true, false, cond, List, [], ◌∷◌, filter, None, refl, subst, arith}
use Rattle.std.specs.List.{AllByRecursion}
use Rattle.std.proofs.lemmas.Bool.{eqb-true, eqb-false, ltb-true, ltb-false}
use Rattle.td_fileset.specs.Layered.{OpenSet, HaveOwnRanges}
use Rattle.td_levels.specs.Levels.{SetFiles, Files, open_sets}
use Rattle.td_levels.specs.Ranges.{with_file, with_files, AreByRange}

-- the first of some sets, where there is one, is of a later day range
abbrev BeginsAfter : ℕ → List SetFiles → Type 0
BeginsAfter range [] = Unit {0}
BeginsAfter range (s ∷ ss) = range < s.range

behind : (s : SetFiles) (ss : List SetFiles) → BeginsAfter s.range ss → AreByRange ss → AreByRange (s ∷ ss)
behind s [] first rest = tt
behind s (t ∷ ts) first rest = (first, rest)

parted : (s : SetFiles) (ss : List SetFiles) → AreByRange (s ∷ ss) → BeginsAfter s.range ss × AreByRange ss
parted s [] h = (tt, tt)
parted s (t ∷ ts) h = (h.0, h.1)

-- ---- one more file

begins_with : (m range n : ℕ) (sets : List SetFiles) → m < range → BeginsAfter m sets → BeginsAfter m (with_file range n sets)
begins_with m range n [] lt h = lt
begins_with m range n (s ∷ ss) lt h = by (s.range == range) (nat_lt range s.range)
  where
    by : (a b : Bool) → BeginsAfter m (cond a (record { range = range; stt = n ∷ s.stt; main = s.main } ∷ ss) (cond b (record { range = range; stt = n ∷ []; main = None } ∷ s ∷ ss) (s ∷ with_file range n ss)))
    by true b = lt
    by false true = lt
    by false false = h

file_by_range : (range n : ℕ) (sets : List SetFiles) → AreByRange sets → AreByRange (with_file range n sets)
file_by_range range n [] h = tt
file_by_range range n (s ∷ ss) h =
    let parts = parted s ss h in
    by (s.range == range) (nat_lt range s.range) refl refl parts.0 parts.1 (file_by_range range n ss parts.1)
  where
    by : (a b : Bool) → (s.range == range) ≡ a → nat_lt range s.range ≡ b → BeginsAfter s.range ss → AreByRange ss → AreByRange (with_file range n ss)
        → AreByRange (cond a (record { range = range; stt = n ∷ s.stt; main = s.main } ∷ ss) (cond b (record { range = range; stt = n ∷ []; main = None } ∷ s ∷ ss) (s ∷ with_file range n ss)))
    by true b e lt first others rest = behind (record { range = range; stt = n ∷ s.stt; main = s.main }) ss (subst (λ (r : ℕ). BeginsAfter r ss) (eqb-true s.range range e) first) others
    by false true e lt first others rest = (ltb-true range s.range lt, behind s ss first others)
    by false false e lt first others rest =
        let other = eqb-false s.range range e in
        let not_before = ltb-false range s.range lt in
        behind s (with_file range n ss) (begins_with s.range range n ss (omega (arith, other, not_before)) first) rest

pub files_by_range : (ranges numbers : List ℕ) (sets : List SetFiles) → AreByRange sets → AreByRange (with_files ranges numbers sets)
files_by_range [] numbers sets h = h
files_by_range (range ∷ ranges) [] sets h = h
files_by_range (range ∷ ranges) (n ∷ numbers) sets h = files_by_range ranges numbers (with_file range n sets) (file_by_range range n sets h)

-- ---- some of the sets

begins_later : (m n : ℕ) (ss : List SetFiles) → m < n → BeginsAfter n ss → BeginsAfter m ss
begins_later m n [] lt h = tt
begins_later m n (s ∷ ss) lt h = omega (arith, lt, h)

module _ (keep : SetFiles → Bool) where
  begins_among : (m : ℕ) (ss : List SetFiles) → BeginsAfter m ss → AreByRange ss → BeginsAfter m (filter keep ss)
  begins_among m [] first h = tt
  begins_among m (s ∷ ss) first h =
      let parts = parted s ss h in
      by (keep s) (begins_among m ss (begins_later m s.range ss first parts.0) parts.1)
    where
      by : (b : Bool) → BeginsAfter m (filter keep ss) → BeginsAfter m (cond b (s ∷ filter keep ss) (filter keep ss))
      by true rest = first
      by false rest = rest

  pub some_by_range : (ss : List SetFiles) → AreByRange ss → AreByRange (filter keep ss)
  some_by_range [] h = tt
  some_by_range (s ∷ ss) h =
      let parts = parted s ss h in
      by (keep s) (begins_among s.range ss parts.0 parts.1) (some_by_range ss parts.1)
    where
      by : (b : Bool) → BeginsAfter s.range (filter keep ss) → AreByRange (filter keep ss) → AreByRange (cond b (s ∷ filter keep ss) (filter keep ss))
      by true first rest = behind s (filter keep ss) first rest
      by false first rest = rest

-- ---- open files

module _ (files : Files) where
  others : (range n : ℕ) (ss : List SetFiles) → range ≤ n → BeginsAfter n ss → AreByRange ss → AllByRecursion (λ (o : OpenSet). o.range ≡ range → ⊥) (open_sets files ss)
  others range n [] le first h = tt
  others range n (s ∷ ss) le first h =
      let parts = parted s ss h in
      ((λ e. omega (arith, e, le, first)), others range s.range ss (omega (arith, le, first)) parts.0 parts.1)

  pub own_ranges : (sets : List SetFiles) → AreByRange sets → HaveOwnRanges (open_sets files sets)
  own_ranges [] h = tt
  own_ranges (s ∷ ss) h =
      let parts = parted s ss h in
      (others s.range s.range ss (omega arith) parts.0 parts.1, own_ranges ss parts.1)
