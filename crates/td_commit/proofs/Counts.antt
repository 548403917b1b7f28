-- How many parts of some lists there are.
use Rattle.std.proofs.Common.{◌≡◌, ◌≢◌, ℕ, ◌+◌, ◌<◌, ◌≤◌, ◌==◌, nat_le, Bool, true, false, cond, ◌&&◌, ◌||◌, List, [], ◌∷◌, length, filter, Option, Some, None, refl, sym, ◌∙◌, arith}
use Rattle.std.specs.List.{cons_option, filter_map}
use Rattle.std.proofs.lemmas.Bool.{eqb-true, eqb-false, leb-true, le-leb, lt-leb}
use Rattle.td_memtable.specs.Joined.{EndsBefore, AreJoined, lies_in_any, IsJoinOf}

-- ---- filters

module _ {X : Type 0} (p : X → Bool) where
  pub length-filter_le : (xs : List X) → length (filter p xs) ≤ length xs
  length-filter_le [] = omega arith
  length-filter_le (x ∷ xs) = by (p x) (length-filter_le xs)
    where
      by : (b : Bool) → length (filter p xs) ≤ length xs → length (cond b (x ∷ filter p xs) (filter p xs)) ≤ length (x ∷ xs)
      by true i = omega (arith, i)
      by false i = omega (arith, i)

module _ {X : Type 0} (p q r : X → Bool) (first : (x : X) → p x ≡ true → (q x ≡ false) × (r x ≡ true)) (second : (x : X) → q x ≡ true → r x ≡ true) where
  -- two tests that no item passes together, and a third that each passes which passes one of them
  pub two_apart : (xs : List X) → length (filter p xs) + length (filter q xs) ≤ length (filter r xs)
  two_apart [] = omega arith
  two_apart (x ∷ xs) = by (p x) (q x) (r x) refl refl refl (two_apart xs)
    where
      by : (a b c : Bool) → p x ≡ a → q x ≡ b → r x ≡ c → length (filter p xs) + length (filter q xs) ≤ length (filter r xs) → length (cond a (x ∷ filter p xs) (filter p xs)) + length (cond b (x ∷ filter q xs) (filter q xs)) ≤ length (cond c (x ∷ filter r xs) (filter r xs))
      by true true c ea eb ec i = absurd (let clash : true ≡ false = sym eb ∙ (first x ea).0 in cc)
      by true false true ea eb ec i = omega (arith, i)
      by true false false ea eb ec i = absurd (let clash : true ≡ false = sym (first x ea).1 ∙ ec in cc)
      by false true true ea eb ec i = omega (arith, i)
      by false true false ea eb ec i = absurd (let clash : true ≡ false = sym (second x eb) ∙ ec in cc)
      by false false true ea eb ec i = omega (arith, i)
      by false false false ea eb ec i = i

pub length-filter_map_le : {A B : Type 0} (h : A → Option B) (xs : List A) → length (filter_map h xs) ≤ length xs
length-filter_map_le h [] = omega arith
length-filter_map_le {A} {B} h (x ∷ xs) = by (h x) (length-filter_map_le h xs)
  where
    by : (o : Option B) → length (filter_map h xs) ≤ length xs → length (cons_option o (filter_map h xs)) ≤ length (x ∷ xs)
    by None i = omega (arith, i)
    by (Some y) i = omega (arith, i)

-- ---- joined ranges

-- no timestamp up to the one behind a range lies in the ranges after it
none_before : (range : ℕ × ℕ) (ranges : List (ℕ × ℕ)) (ts : ℕ) → EndsBefore range ranges → AreJoined ranges → ts ≤ range.1 + 1 → lies_in_any ts ranges ≡ false
none_before range [] ts ends joined le = refl
none_before range (r ∷ rs) ts ends joined le =
    let out : nat_le r.0 ts ≡ false = lt-leb r.0 ts (omega (arith, ends, le)) in
    let rest : lies_in_any ts rs ≡ false = none_before r rs ts joined.1.0 joined.1.1 (omega (arith, ends, le, joined.0)) in
    rw (out, rest) refl

at_end : (lo hi : ℕ) (ranges : List (ℕ × ℕ)) → lo ≤ hi → lies_in_any hi ((lo, hi) ∷ ranges) ≡ true
at_end lo hi ranges le =
    let low : nat_le lo hi ≡ true = le-leb lo hi le in
    let high : nat_le hi hi ≡ true = le-leb hi hi (omega arith) in
    rw (low, high) refl

past_first : (ts lo hi : ℕ) (ranges : List (ℕ × ℕ)) → hi < ts → lies_in_any ts ((lo, hi) ∷ ranges) ≡ lies_in_any ts ranges
past_first ts lo hi ranges past = by (nat_le lo ts)
  where
    by : (b : Bool) → ((b && nat_le ts hi) || lies_in_any ts ranges) ≡ lies_in_any ts ranges
    by true = rw (lt-leb ts hi past) refl
    by false = refl

abbrev ends_at : ℕ → ℕ × ℕ → Bool
ends_at hi range = range.1 == hi

and_left : (a b : Bool) → (a && b) ≡ true → a ≡ true
and_left true b h = refl
and_left false b h = absurd (let clash : false ≡ true = h in cc)

and_right : (a b : Bool) → (a && b) ≡ true → b ≡ true
and_right true b h = h
and_right false b h = absurd (let clash : false ≡ true = h in cc)

and_both : (a b : Bool) → a ≡ true → b ≡ true → (a && b) ≡ true
and_both true b e f = f
and_both false b e f = e

-- a range that a timestamp lies in and the next one doesn't ends there
no_end : (hi lo to : ℕ) → (nat_le lo hi && nat_le hi to) ≡ true → (nat_le lo (hi + 1) && nat_le (hi + 1) to) ≡ false → (to == hi) ≡ false → ⊥
no_end hi lo to there not_there other =
    let from = leb-true lo hi (and_left (nat_le lo hi) (nat_le hi to) there) in
    let up_to = leb-true hi to (and_right (nat_le lo hi) (nat_le hi to) there) in
    let not_end : to ≢ hi = eqb-false to hi other in
    let past : hi + 1 ≤ to = omega (arith, up_to, not_end) in
    let clash : true ≡ false = sym (and_both (nat_le lo (hi + 1)) (nat_le (hi + 1) to) (le-leb lo (hi + 1) (omega (arith, from))) (le-leb (hi + 1) to past)) ∙ not_there in
    cc

-- a range ends at a timestamp that lies in some ranges while the next one doesn't
one_ends : (others : List (ℕ × ℕ)) (hi : ℕ) → lies_in_any hi others ≡ true → lies_in_any (hi + 1) others ≡ false → 0 < length (filter (ends_at hi) others)
one_ends [] hi there not_there = absurd (let clash : false ≡ true = there in cc)
one_ends (r ∷ rs) hi there not_there = by (nat_le r.0 hi && nat_le hi r.1) (nat_le r.0 (hi + 1) && nat_le (hi + 1) r.1) (r.1 == hi) refl refl refl (one_ends rs hi) there not_there
  where
    by : (a b c : Bool) → (nat_le r.0 hi && nat_le hi r.1) ≡ a → (nat_le r.0 (hi + 1) && nat_le (hi + 1) r.1) ≡ b → (r.1 == hi) ≡ c → (lies_in_any hi rs ≡ true → lies_in_any (hi + 1) rs ≡ false → 0 < length (filter (ends_at hi) rs)) → (a || lies_in_any hi rs) ≡ true → (b || lies_in_any (hi + 1) rs) ≡ false → 0 < length (cond c (r ∷ filter (ends_at hi) rs) (filter (ends_at hi) rs))
    by a b true ea eb ec rest t n = omega arith
    by a true false ea eb ec rest t n = absurd (let clash : true ≡ false = n in cc)
    by false false false ea eb ec rest t n = rest t n
    by true false false ea eb ec rest t n = absurd (no_end hi r.0 r.1 ea eb ec)

-- where the first of some ranges doesn't begin before a timestamp
abbrev BeginFrom : ℕ → List (ℕ × ℕ) → Type 0
BeginFrom from [] = Unit {0}
BeginFrom from (range ∷ ranges) = from ≤ range.0

begin_behind : (range : ℕ × ℕ) (ranges : List (ℕ × ℕ)) → EndsBefore range ranges → BeginFrom (range.1 + 1) ranges
begin_behind range [] ends = tt
begin_behind range (r ∷ rs) ends = omega (arith, ends)

fewer_than : (joined others : List (ℕ × ℕ)) (from : ℕ) → AreJoined joined → BeginFrom from joined → ((ts : ℕ) → from ≤ ts → lies_in_any ts joined ≡ lies_in_any ts others) → length joined ≤ length (filter (λ (r : ℕ × ℕ). nat_le from r.1) others)
fewer_than [] others from are begin same = omega arith
fewer_than (j ∷ js) others from are begin same =
    let there : lies_in_any j.1 others ≡ true = sym (same j.1 (omega (arith, begin, are.0))) ∙ at_end j.0 j.1 js are.0 in
    let not_there : lies_in_any (j.1 + 1) others ≡ false = sym (same (j.1 + 1) (omega (arith, begin, are.0))) ∙ past_first (j.1 + 1) j.0 j.1 js (omega arith) ∙ none_before j js (j.1 + 1) are.1.0 are.1.1 (omega arith) in
    let own : 0 < length (filter (ends_at j.1) others) = one_ends others j.1 there not_there in
    let rest : length js ≤ length (filter (λ (r : ℕ × ℕ). nat_le (j.1 + 1) r.1) others) =
    fewer_than js others (j.1 + 1) are.1.1 (begin_behind j js are.1.0) (λ ts le. sym (past_first ts j.0 j.1 js (omega (arith, le))) ∙ same ts (omega (arith, le, begin, are.0))) in
    let apart : length (filter (ends_at j.1) others) + length (filter (λ (r : ℕ × ℕ). nat_le (j.1 + 1) r.1) others) ≤ length (filter (λ (r : ℕ × ℕ). nat_le from r.1) others) =
    two_apart (ends_at j.1) (λ (r : ℕ × ℕ). nat_le (j.1 + 1) r.1) (λ (r : ℕ × ℕ). nat_le from r.1)
    (λ r is. let ends = eqb-true r.1 j.1 is in (lt-leb (j.1 + 1) r.1 (omega (arith, ends)), le-leb from r.1 (omega (arith, ends, begin, are.0))))
    (λ r is. let past = leb-true (j.1 + 1) r.1 is in le-leb from r.1 (omega (arith, past, begin, are.0)))
    others in
    omega (arith, own, rest, apart)

-- some ranges are no fewer than those that they are joined to
pub joined_few : (joined others : List (ℕ × ℕ)) → IsJoinOf joined others → length joined ≤ length others
joined_few joined others join =
    let some = fewer_than joined others 0 join.joined (from_none joined) (λ ts le. join.same ts) in
    let all = length-filter_le (λ (r : ℕ × ℕ). nat_le 0 r.1) others in
    omega (arith, some, all)
  where
    from_none : (ranges : List (ℕ × ℕ)) → BeginFrom 0 ranges
    from_none [] = tt
    from_none (r ∷ rs) = omega arith
