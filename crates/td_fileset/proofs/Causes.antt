-- What one scan of some found is the cause of all.
use Rattle.std.proofs.Common.{◌≡◌, ℕ, zero, suc, ◌+◌, ◌-◌, ◌^◌, ◌<◌, ◌≤◌, min, List, [], ◌∷◌, ◌++◌, length, map, get_or, Option, Some, None, refl, sym, ap, ◌∙◌, subst, arith}
use Rattle.std.specs.Prelude.{sum, IfSome, Contains, Err, slice_set}
use Rattle.std.specs.Option.{option_map, option_and_then}
use Rattle.std.specs.List.{flat_map, AllByRecursion}
use Rattle.std.proofs.lemmas.List.Sums.{sum_by-cons}
use Rattle.std.proofs.lemmas.List.Elements.{Contains-append_left, Contains-append_right}
use Rattle.td_layer.specs.declared.scans.ScanFault.{ScanFault}
use Rattle.td_layer.specs.declared.scans.ScanFault.TheVariants.{ReadFault, Damaged, NoMemory}
use Rattle.td_layer.specs.Scans.{Places, Rose, Explains, HasScanCause}
use Rattle.td_fileset.specs.Sources.{Fed}
use Rattle.td_fileset.specs.Merged.{all_told, places_of, faults_of}

abbrev pub counts_of : List Fed → List ℕ
counts_of fs = map (λ (f : Fed). f.count) fs

sum-cons : (n : ℕ) (ns : List ℕ) → sum (n ∷ ns) ≡ n + sum ns
sum-cons n ns = sum_by-cons (λ x. x) n ns

-- the sum without one of its terms, before and after that one changed
sum_set : (fs : List Fed) (i : ℕ) (y d : Fed) → i < length fs → (r : ℕ) × (sum (counts_of fs) ≡ (get_or fs i d).count + r) × (sum (counts_of (slice_set fs i y)) ≡ y.count + r)
sum_set [] i y d lt = absurd (omega arith)
sum_set (f ∷ fs) zero y d lt = (sum (counts_of fs), sum-cons f.count (counts_of fs), sum-cons y.count (counts_of fs))
sum_set (f ∷ fs) (suc i) y d lt =
    let rest = sum_set fs i y d (omega arith) in
    let before = sum-cons f.count (counts_of fs) in
    let after = sum-cons f.count (counts_of (slice_set fs i y)) in
    (f.count + rest.0, omega (arith, before, rest.1), omega (arith, after, rest.2))

-- a damaged place of one scan is one of all
place_among : (fs : List Fed) (i : ℕ) (d : Fed) (p : ℕ × ℕ) → i < length fs → IfSome (get_or fs i d).damaged (λ places. Contains places p) → IfSome (places_of fs) (λ places. Contains places p)
place_among [] i d p lt h = absurd (omega arith)
place_among (f ∷ fs) zero d p lt h = by f.damaged (all_told (map (λ (f : Fed). f.damaged) fs)) h
  where
    by : (o : Option Places) (os : Option (List Places)) → IfSome o (λ places. Contains places p) → IfSome (option_map (flat_map (λ (places : Places). places)) (option_and_then (λ x. option_map (λ xs. x ∷ xs) os) o)) (λ places. Contains places p)
    by None os h = tt
    by (Some x) None h = tt
    by (Some x) (Some xs) h = Contains-append_left x (flat_map (λ (places : Places). places) xs) p h
place_among (f ∷ fs) (suc i) d p lt h = by f.damaged (all_told (map (λ (f : Fed). f.damaged) fs)) (place_among fs i d p (omega arith) h)
  where
    by : (o : Option Places) (os : Option (List Places)) → IfSome (option_map (flat_map (λ (places : Places). places)) os) (λ places. Contains places p)
        → IfSome (option_map (flat_map (λ (places : Places). places)) (option_and_then (λ x. option_map (λ xs. x ∷ xs) os) o)) (λ places. Contains places p)
    by None os h = tt
    by (Some x) None h = tt
    by (Some x) (Some xs) h = Contains-append_right x (flat_map (λ (places : Places). places) xs) p h

later : (a b r : ℕ) → a ≤ b → min (a + r) (2 ^ 64 - 1) ≤ min (b + r) (2 ^ 64 - 1)
later a b r h = omega arith

rises : (a b r : ℕ) → Rose a b → Rose (min (a + r) (2 ^ 64 - 1)) (min (b + r) (2 ^ 64 - 1))
rises a b r h = omega arith

explained : (fs : List Fed) (i : ℕ) (d : Fed) (a b s t r : ℕ) (e : ScanFault) → i < length fs → s ≡ a + r → t ≡ b + r → Explains (get_or fs i d).damaged a b e → Explains (places_of fs) (min s (2 ^ 64 - 1)) (min t (2 ^ 64 - 1)) e
explained fs i d a b s t r ReadFault lt es et h = rw (es, et) (rises a b r h)
explained fs i d a b s t r (Damaged file at) lt es et h = (rw (es, et, h.0) refl, place_among fs i d (file, at) lt h.1)
explained fs i d a b s t r NoMemory lt es et h = rw (es, et, h) refl

pub fault_at : (fs : List Fed) (i : ℕ) (y d : Fed) (e : ScanFault) → i < length fs → HasScanCause {X = Unit {0}} (get_or fs i d).damaged (get_or fs i d).count y.count (Err e)
    → HasScanCause {X = Unit {0}} (places_of fs) (faults_of (counts_of fs)) (faults_of (counts_of (slice_set fs i y))) (Err e)
fault_at fs i y d e lt h =
    let sums = sum_set fs i y d lt in
    record {
      later = rw (sums.1, sums.2) (later (get_or fs i d).count y.count sums.0 h.later);
      kept = tt;
      fault = explained fs i d (get_or fs i d).count y.count (sum (counts_of fs)) (sum (counts_of (slice_set fs i y))) sums.0 e lt sums.1 sums.2 h.fault;
    }

-- ---- what holds of each up to a place

pub all_up_to : (P : Fed → Type 0) (fs : List Fed) (i : ℕ) (y : Fed) → i < length fs → AllByRecursion P (Rattle.std.proofs.Common.take i fs) → P y → AllByRecursion P (Rattle.std.proofs.Common.take (suc i) (slice_set fs i y))
all_up_to P [] i y lt h p = absurd (omega arith)
all_up_to P (f ∷ fs) zero y lt h p = (p, tt)
all_up_to P (f ∷ fs) (suc i) y lt h p = (h.0, all_up_to P fs i y (omega arith) h.1 p)
