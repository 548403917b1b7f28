-- Ranges that are joined: a timestamp is found by search, and no other joined ranges take in the same timestamps.
use Rattle.std.proofs.Common.{◌≡◌, ℕ, suc, zero, ◌+◌, ◌<◌, ◌≤◌, nat_le, Bool, true, false, ◌&&◌, ◌||◌, List, [], ◌∷◌, length, get_or, slice_get, ltb, Option, Some, None, refl, sym, ap, ◌∙◌, subst, arith}
use Rattle.std.specs.List.Sorted.{IsNonDecreasingBy}
use Rattle.std.proofs.lemmas.Bool.{leb-true, leb-false, le-leb, lt-leb, ltb-true, ltb-false}
use Rattle.td_memtable.specs.Joined.{EndsBefore, AreJoined, lies_in_any, IsJoinOf}

-- no timestamp up to the one behind a range lies in the ranges after it
none_before : (range : ℕ × ℕ) (ranges : List (ℕ × ℕ)) (ts : ℕ) → EndsBefore range ranges → AreJoined ranges → ts ≤ range.1 + 1 → lies_in_any ts ranges ≡ false
none_before range [] ts ends joined le = refl
none_before range (r ∷ rs) ts ends joined le =
    let out : nat_le r.0 ts ≡ false = lt-leb r.0 ts (omega (arith, ends, le)) in
    let rest : lies_in_any ts rs ≡ false = none_before r rs ts joined.1.0 joined.1.1 (omega (arith, ends, le, joined.0)) in
    rw (out, rest) refl

lies_in_first : (ts lo hi : ℕ) (ranges : List (ℕ × ℕ)) → lo ≤ ts → ts ≤ hi → lies_in_any ts ((lo, hi) ∷ ranges) ≡ true
lies_in_first ts lo hi ranges from to = rw (le-leb lo ts from, le-leb ts hi to) refl

past_first : (ts lo hi : ℕ) (ranges : List (ℕ × ℕ)) → hi < ts → lies_in_any ts ((lo, hi) ∷ ranges) ≡ lies_in_any ts ranges
past_first ts lo hi ranges past = by (nat_le lo ts)
  where
    by : (b : Bool) → ((b && nat_le ts hi) || lies_in_any ts ranges) ≡ lies_in_any ts ranges
    by true = rw (lt-leb ts hi past) refl
    by false = refl

before_first : (ts lo hi : ℕ) (ranges : List (ℕ × ℕ)) → AreJoined ((lo, hi) ∷ ranges) → ts < lo → lies_in_any ts ((lo, hi) ∷ ranges) ≡ false
before_first ts lo hi ranges joined before =
    let out : nat_le lo ts ≡ false = lt-leb lo ts before in
    rw (out, none_before (lo, hi) ranges ts joined.1.0 joined.1.1 (omega (arith, before, joined.0))) refl

-- ---- one list

abbrev AreSame : List (ℕ × ℕ) → List (ℕ × ℕ) → Type 0
AreSame a b = (ts : ℕ) → lies_in_any ts a ≡ lies_in_any ts b

turned : (a b : List (ℕ × ℕ)) → AreSame a b → AreSame b a
turned a b same = λ ts. sym (same ts)

-- the first of joined ranges doesn't begin before those of the same timestamps
begins : (lo hi from to : ℕ) (us bs : List (ℕ × ℕ)) → AreJoined ((lo, hi) ∷ us) → AreJoined ((from, to) ∷ bs) → AreSame ((lo, hi) ∷ us) ((from, to) ∷ bs) → from ≤ lo
begins lo hi from to us bs a b same = by (nat_le from lo) refl
  where
    by : (q : Bool) → nat_le from lo ≡ q → from ≤ lo
    by true is = leb-true from lo is
    by false is =
        let there : lies_in_any lo ((from, to) ∷ bs) ≡ true = sym (same lo) ∙ lies_in_first lo lo hi us (omega arith) a.0 in
        let not_there = before_first lo from to bs b (leb-false from lo is) in
        absurd (let clash : true ≡ false = sym there ∙ not_there in cc)

-- and where they begin together it doesn't end after them
ends : (lo hi to : ℕ) (us bs : List (ℕ × ℕ)) → AreJoined ((lo, hi) ∷ us) → AreJoined ((lo, to) ∷ bs) → AreSame ((lo, hi) ∷ us) ((lo, to) ∷ bs) → hi ≤ to
ends lo hi to us bs a b same = by (nat_le hi to) refl
  where
    by : (q : Bool) → nat_le hi to ≡ q → hi ≤ to
    by true is = leb-true hi to is
    by false is =
        let beyond : to < hi = leb-false hi to is in
        let there : lies_in_any (to + 1) ((lo, hi) ∷ us) ≡ true = lies_in_first (to + 1) lo hi us (omega (arith, b.0)) (omega (arith, beyond)) in
        let not_there : lies_in_any (to + 1) ((lo, to) ∷ bs) ≡ false = past_first (to + 1) lo to bs (omega arith) ∙ none_before (lo, to) bs (to + 1) b.1.0 b.1.1 (omega arith) in
        absurd (let clash : true ≡ false = sym there ∙ same (to + 1) ∙ not_there in cc)

rest_same : (lo hi : ℕ) (us bs : List (ℕ × ℕ)) → AreJoined ((lo, hi) ∷ us) → AreJoined ((lo, hi) ∷ bs) → AreSame ((lo, hi) ∷ us) ((lo, hi) ∷ bs) → AreSame us bs
rest_same lo hi us bs a b same = λ ts. by ts (nat_le ts hi) refl
  where
    by : (ts : ℕ) (q : Bool) → nat_le ts hi ≡ q → lies_in_any ts us ≡ lies_in_any ts bs
    by ts true is =
        let le : ts ≤ hi = leb-true ts hi is in
        none_before (lo, hi) us ts a.1.0 a.1.1 (omega (arith, le)) ∙ sym (none_before (lo, hi) bs ts b.1.0 b.1.1 (omega (arith, le)))
    by ts false is =
        let past : hi < ts = leb-false ts hi is in
        sym (past_first ts lo hi us past) ∙ same ts ∙ past_first ts lo hi bs past

-- joined ranges that begin and end alike
same_first : (lo hi from to : ℕ) (us bs : List (ℕ × ℕ)) → AreJoined ((lo, hi) ∷ us) → AreJoined ((from, to) ∷ bs) → AreSame ((lo, hi) ∷ us) ((from, to) ∷ bs) → (from ≡ lo) × (to ≡ hi)
same_first lo hi from to us bs a b same =
    let from_le = begins lo hi from to us bs a b same in
    let lo_le = begins from to lo hi bs us b a (turned ((lo, hi) ∷ us) ((from, to) ∷ bs) same) in
    let first : from ≡ lo = omega (arith, from_le, lo_le) in
    let b_at : AreJoined ((lo, to) ∷ bs) = subst (λ n. AreJoined ((n, to) ∷ bs)) first b in
    let same_at : AreSame ((lo, hi) ∷ us) ((lo, to) ∷ bs) = subst (λ n. AreSame ((lo, hi) ∷ us) ((n, to) ∷ bs)) first same in
    let hi_le = ends lo hi to us bs a b_at same_at in
    let to_le = ends lo to hi bs us b_at a (turned ((lo, hi) ∷ us) ((lo, to) ∷ bs) same_at) in
    (first, omega (arith, hi_le, to_le))

rest_of : (lo hi from to : ℕ) (us bs : List (ℕ × ℕ)) → from ≡ lo → to ≡ hi → AreJoined ((lo, hi) ∷ us) → AreJoined ((from, to) ∷ bs) → AreSame ((lo, hi) ∷ us) ((from, to) ∷ bs) → AreSame us bs
rest_of lo hi from to us bs first last a b same =
    let b_at : AreJoined ((lo, hi) ∷ bs) = subst (λ n. AreJoined ((lo, n) ∷ bs)) last (subst (λ n. AreJoined ((n, to) ∷ bs)) first b) in
    let same_at : AreSame ((lo, hi) ∷ us) ((lo, hi) ∷ bs) = subst (λ n. AreSame ((lo, hi) ∷ us) ((lo, n) ∷ bs)) last (subst (λ n. AreSame ((lo, hi) ∷ us) ((n, to) ∷ bs)) first same) in
    rest_same lo hi us bs a b_at same_at

consed : (lo hi from to : ℕ) (us bs : List (ℕ × ℕ)) → from ≡ lo → to ≡ hi → us ≡ bs → (lo, hi) ∷ us ≡ (from, to) ∷ bs
consed lo hi from to us bs first last rest = rw (first, last, rest) refl

one_list : (a b : List (ℕ × ℕ)) → AreJoined a → AreJoined b → AreSame a b → a ≡ b
one_list [] [] a b same = refl
one_list [] (r ∷ bs) a b same = absurd (let clash : false ≡ true = same r.0 ∙ lies_in_first r.0 r.0 r.1 bs (omega arith) b.0 in cc)
one_list (r ∷ us) [] a b same = absurd (let clash : true ≡ false = sym (lies_in_first r.0 r.0 r.1 us (omega arith) a.0) ∙ same r.0 in cc)
one_list (r ∷ us) (s ∷ bs) a b same =
    let f = same_first r.0 r.1 s.0 s.1 us bs a b same in
    let rest : us ≡ bs = one_list us bs a.1.1 b.1.1 (rest_of r.0 r.1 s.0 s.1 us bs f.0 f.1 a b same) in
    consed r.0 r.1 s.0 s.1 us bs f.0 f.1 rest

pub one_join : (cuts ranges others : List (ℕ × ℕ)) → IsJoinOf ranges cuts → IsJoinOf others cuts → ranges ≡ others
one_join cuts ranges others a b = one_list ranges others a.joined b.joined (λ ts. a.same ts ∙ sym (b.same ts))

-- ---- found by search

-- the ends of joined ranges rise
ends_from : (r : ℕ × ℕ) (rs : List (ℕ × ℕ)) (j : ℕ) (d : ℕ × ℕ) → EndsBefore r rs → AreJoined rs → j < length rs → r.1 ≤ (get_or rs j d).1
ends_from r [] j d ends joined l = absurd (omega arith)
ends_from r (s ∷ rs) zero d ends joined l = omega (arith, ends, joined.0)
ends_from r (s ∷ rs) (suc j) d ends joined l =
    let rest = ends_from s rs j d joined.1.0 joined.1.1 (omega (arith, l)) in
    omega (arith, ends, joined.0, rest)

pub ends_rise : (ranges : List (ℕ × ℕ)) → AreJoined ranges → IsNonDecreasingBy (λ (r : ℕ × ℕ). r.1) ranges
ends_rise [] joined = λ i j d le l. absurd (omega arith)
ends_rise (r ∷ rs) joined = at (ends_rise rs joined.1.1)
  where
    at : IsNonDecreasingBy (λ (r : ℕ × ℕ). r.1) rs → IsNonDecreasingBy (λ (r : ℕ × ℕ). r.1) (r ∷ rs)
    at rest zero zero d le l = omega arith
    at rest zero (suc j) d le l = ends_from r rs j d joined.1.0 joined.1.1 (omega (arith, l))
    at rest (suc i) zero d le l = absurd (omega arith)
    at rest (suc i) (suc j) d le l = rest i j d (omega (arith, le)) (omega (arith, l))

-- whether a range that may be missing begins at a timestamp or before it
abbrev pub begins_by : ℕ → Option (ℕ × ℕ) → Bool
begins_by ts None = false
begins_by ts (Some range) = nat_le range.0 ts

pub found_at : (ts : ℕ) (ranges : List (ℕ × ℕ)) (i : ℕ) → AreJoined ranges → ((k : ℕ) (d : ℕ × ℕ) → k < i → k < length ranges → (get_or ranges k d).1 < ts) → ((k : ℕ) (d : ℕ × ℕ) → i ≤ k → k < length ranges → ts ≤ (get_or ranges k d).1)
    → begins_by ts (slice_get ranges i) ≡ lies_in_any ts ranges
found_at ts [] zero joined before from = refl
found_at ts [] (suc i) joined before from = refl
found_at ts (r ∷ rs) zero joined before from =
    let le : ts ≤ r.1 = from 0 r (omega arith) (omega arith) in
    by (nat_le r.0 ts) (le-leb ts r.1 le) (none_before r rs ts joined.1.0 joined.1.1 (omega (arith, le)))
  where
    by : (b : Bool) → nat_le ts r.1 ≡ true → lies_in_any ts rs ≡ false → b ≡ ((b && nat_le ts r.1) || lies_in_any ts rs)
    by true is none = rw is refl
    by false is none = sym none
found_at ts (r ∷ rs) (suc i) joined before from =
    let past : r.1 < ts = before 0 r (omega arith) (omega arith) in
    found_at ts rs i joined.1.1 (λ k d u v. before (suc k) d (omega (arith, u)) (omega (arith, v))) (λ k d u v. from (suc k) d (omega (arith, u)) (omega (arith, v)))
    ∙ sym (past_first ts r.0 r.1 rs past)

get_none : {X : Type 0} (xs : List X) (i : ℕ) → length xs ≤ i → slice_get xs i ≡ None
get_none [] zero l = refl
get_none [] (suc i) l = refl
get_none (x ∷ xs) zero l = absurd (omega arith)
get_none (x ∷ xs) (suc i) l = get_none xs i (omega (arith, l))

get_some : {X : Type 0} (xs : List X) (i : ℕ) (d : X) → i < length xs → slice_get xs i ≡ Some (get_or xs i d)
get_some [] i d l = absurd (omega arith)
get_some (x ∷ xs) zero d l = refl
get_some (x ∷ xs) (suc i) d l = get_some xs i d (omega (arith, l))

-- where a place parts the ranges that end before a timestamp from the others
pub record Parts (ts : ℕ) (ranges : List (ℕ × ℕ)) (i : ℕ) : Type 0 where
  pub before : (k : ℕ) (d : ℕ × ℕ) → 0 ≤ k → k < i → ltb (get_or ranges k d).1 ts ≡ true
  pub from : (k : ℕ) (d : ℕ × ℕ) → i ≤ k → k < length ranges → ltb (get_or ranges k d).1 ts ≡ false

found : (ts : ℕ) (ranges : List (ℕ × ℕ)) (i : ℕ) → AreJoined ranges → Parts ts ranges i → begins_by ts (slice_get ranges i) ≡ lies_in_any ts ranges
found ts ranges i joined p =
    found_at ts ranges i joined (λ k d u v. ltb-true (get_or ranges k d).1 ts (p.before k d (omega arith) u)) (λ k d u v. ltb-false (get_or ranges k d).1 ts (p.from k d u v))

pub found_none : (ts : ℕ) (ranges : List (ℕ × ℕ)) (i : ℕ) → AreJoined ranges → Parts ts ranges i → length ranges ≤ i → ltb i (length ranges) ≡ lies_in_any ts ranges
found_none ts ranges i joined p l =
    let out : ltb i (length ranges) ≡ false = lt-leb (suc i) (length ranges) (omega (arith, l)) in
    out ∙ sym (ap (begins_by ts) (get_none ranges i l)) ∙ found ts ranges i joined p

pub found_here : (ts : ℕ) (ranges : List (ℕ × ℕ)) (i : ℕ) (d : ℕ × ℕ) → AreJoined ranges → Parts ts ranges i → i < length ranges → nat_le (get_or ranges i d).0 ts ≡ lies_in_any ts ranges
found_here ts ranges i d joined p l = sym (ap (begins_by ts) (get_some ranges i d l)) ∙ found ts ranges i joined p
