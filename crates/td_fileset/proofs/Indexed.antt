-- One of some sets, by number.
use Rattle.std.proofs.Common.{◌≡◌, ℕ, zero, suc, ◌+◌, ◌<◌, List, [], ◌∷◌, length, map, get_or, Option, Some, refl, subst, arith}
use Rattle.std.specs.Prelude.{Result, sum, slice_set, slice_index}
use Rattle.std.proofs.lemmas.List.Sums.{sum_by-cons}
use Rattle.td_layer.specs.declared.scans.ScanFault.{ScanFault}
use Rattle.td_layer.specs.Scans.{Places, HasScanCause}
use Rattle.td_fileset.specs.Layered.{OpenSet}
use Rattle.td_fileset.specs.Opened.{Readers, shown_count}
use Rattle.td_fileset.specs.Pieces.{set_at}
use Rattle.td_fileset.proofs.Spanned.{cause_beside}

abbrev pub files_of : List Readers → List OpenSet
files_of rs = map (λ (r : Readers). r.files) rs

pub set_there : (rs : List Readers) (i : ℕ) (d : Readers) → i < length rs → set_at (files_of rs) (Some i) ≡ (get_or rs i d).files
set_there [] i d lt = absurd (omega (arith, lt))
set_there (r ∷ rs) zero d lt = refl
set_there (r ∷ rs) (suc i) d lt = set_there rs i d (omega (arith, lt))

pub range_there : (rs : List Readers) (i : ℕ) (d : Readers) → i < length rs → slice_index (map (λ (s : OpenSet). s.range) (files_of rs)) i ≡ (get_or rs i d).files.range
range_there [] i d lt = absurd (omega (arith, lt))
range_there (r ∷ rs) zero d lt = refl
range_there (r ∷ rs) (suc i) d lt = range_there rs i d (omega (arith, lt))

-- the sum without one of its terms, before and after that one changed
sum_at : (rs : List Readers) (i : ℕ) (y d : Readers) → i < length rs
    → (r : ℕ) × (sum (map (λ (r : Readers). r.failed) rs) ≡ (get_or rs i d).failed + r) × (sum (map (λ (r : Readers). r.failed) (slice_set rs i y)) ≡ y.failed + r)
sum_at [] i y d lt = absurd (omega (arith, lt))
sum_at (x ∷ rs) zero y d lt = (sum (map (λ (r : Readers). r.failed) rs), sum_by-cons (λ n. n) x.failed (map (λ (r : Readers). r.failed) rs), sum_by-cons (λ n. n) y.failed (map (λ (r : Readers). r.failed) rs))
sum_at (x ∷ rs) (suc i) y d lt =
    let rest = sum_at rs i y d (omega (arith, lt)) in
    (x.failed + rest.0, omega (arith, sum_by-cons (λ n. n) x.failed (map (λ (r : Readers). r.failed) rs), rest.1), omega (arith, sum_by-cons (λ n. n) x.failed (map (λ (r : Readers). r.failed) (slice_set rs i y)), rest.2))

-- the cause of one set is that of all
pub cause_at : {X : Type 0} (places : Option Places) (rs : List Readers) (i : ℕ) (y d : Readers) (r : Result X ScanFault) → i < length rs → HasScanCause places (shown_count (get_or rs i d).failed) (shown_count y.failed) r
    → HasScanCause places (shown_count (sum (map (λ (r : Readers). r.failed) rs))) (shown_count (sum (map (λ (r : Readers). r.failed) (slice_set rs i y)))) r
cause_at {X} places rs i y d r lt h =
    let sums = sum_at rs i y d lt in
    let before : sums.0 + (get_or rs i d).failed ≡ sum (map (λ (r : Readers). r.failed) rs) = omega (arith, sums.1) in
    let after : sums.0 + y.failed ≡ sum (map (λ (r : Readers). r.failed) (slice_set rs i y)) = omega (arith, sums.2) in
    subst (λ (n : ℕ). HasScanCause places (shown_count n) (shown_count (sum (map (λ (r : Readers). r.failed) (slice_set rs i y)))) r) before
    (subst (λ (n : ℕ). HasScanCause places (shown_count (sums.0 + (get_or rs i d).failed)) (shown_count n) r) after (cause_beside places sums.0 (get_or rs i d).failed y.failed r h))
