-- The first file of a head that isn't among some numbers.
use Rattle.std.proofs.Common.{◌≡◌, ℕ, ◌<◌, ◌≤◌, ltb, Bool, true, false, cond, List, length, get_or, take, slice_get, Option, Some, None, refl, sym, subst, ◌∙◌, arith}
use Rattle.std.specs.Prelude.{All, not, position}
use Rattle.std.specs.List.{position_or_len}
use Rattle.std.proofs.lemmas.Bool.{ltb-false}
use Rattle.std.proofs.lemmas.List.{length-take, get_or-take}
use Rattle.std.proofs.lemmas.List.Elements.{All-from_get_or}
use Rattle.std.proofs.lemmas.List.Quantifiers.{position-Some}
use Rattle.std.proofs.lemmas.List.Sums.{fails_before_first}
use Rattle.std.proofs.lemmas.Option.{slice_get-get_or}
use Rattle.td_manifest.specs.declared.head.Head.{Head}
use Rattle.td_manifest.specs.Files.{all_files}
use Rattle.td_outside.specs.Files.{lists}
use Rattle.td_opening.specs.Opening.{FirstUnlisted}

not_true : (b : Bool) → not b ≡ true → b ≡ false
not_true true e = sym e
not_true false e = refl

not_false : (b : Bool) → not b ≡ false → b ≡ true
not_false true e = refl
not_false false e = sym e

front : (P : ℕ → Type 0) (xs : List ℕ) (i : ℕ) → ((k : ℕ) → k < i → P (get_or xs k 0)) → All P (take i xs)
front P xs i each = All-from_get_or P (take i xs) 0 (λ k lt.
    let below : k < i = omega (arith, lt, length-take i xs) in
    subst P (sym (get_or-take i xs k 0 below)) (each k below))

pub unlisted : (h : Head) (names set named : List ℕ) → named ≡ all_files h.sets → ((n : ℕ) → lists n set ≡ lists n names) → (i : ℕ) → position (λ n. not (lists n set)) named ≡ Some i → FirstUnlisted h names i
unlisted h names set named is same i at =
    let found = position-Some (λ n. not (lists n set)) named i 0 at in
    let Listed : ℕ → Type 0 = λ n. lists n names ≡ true in
    record {
      name = get_or named i 0;
      there = subst (λ (xs : List ℕ). slice_get xs i ≡ Some (get_or named i 0)) is (slice_get-get_or named i 0 found.0);
      unlisted = sym (same (get_or named i 0)) ∙ not_true (lists (get_or named i 0) set) found.1;
      before = subst (λ (xs : List ℕ). All Listed (take i xs)) is
          (front Listed named i (λ k lt. sym (same (get_or named k 0)) ∙ not_false (lists (get_or named k 0) set) (found.2 k lt)));
    }

nowhere : (test : ℕ → Bool) (xs : List ℕ) → position test xs ≡ None → length xs ≤ position_or_len test xs
nowhere test xs none = by (ltb (position_or_len test xs) (length xs)) refl none
  where
    by : (b : Bool) → ltb (position_or_len test xs) (length xs) ≡ b → cond b (Some (position_or_len test xs)) None ≡ None → length xs ≤ position_or_len test xs
    by true e f = absurd cc
    by false e f = ltb-false (position_or_len test xs) (length xs) e

pub all_are_listed : (h : Head) (names set named : List ℕ) → named ≡ all_files h.sets → ((n : ℕ) → lists n set ≡ lists n names) → position (λ n. not (lists n set)) named ≡ None → All (λ (n : ℕ). lists n names ≡ true) (all_files h.sets)
all_are_listed h names set named is same none =
    let test : ℕ → Bool = λ n. not (lists n set) in
    let past = nowhere test named none in
    subst (λ (xs : List ℕ). All (λ (n : ℕ). lists n names ≡ true) xs) is
    (All-from_get_or (λ (n : ℕ). lists n names ≡ true) named 0 (λ k lt.
    let below : k < position_or_len test named = omega (arith, lt, past) in
    sym (same (get_or named k 0)) ∙ not_false (lists (get_or named k 0) set) (fails_before_first test named k 0 below)))
