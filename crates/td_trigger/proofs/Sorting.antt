-- There is one list of given ranges in order.
use Rattle.std.proofs.Common.{◌≡◌, ◌⊎◌, ℕ, suc, ◌+◌, ◌<◌, ◌≤◌, Bool, true, false, ◌&&◌, cond, List, [], ◌∷◌, length, get_or, refl, sym, ap, ◌∙◌, subst, arith, leb, ltb, eqb, inl, inr, sum_by}
use Rattle.std.proofs.lemmas.Bool.{le-leb, lt-ltb, le-ltb, leb-true, ltb-true, leb-false, eqb-true, eq-eqb, or_cases, and_parts, cases_order, cases_Bool, both_ways, true≢false}
use Rattle.std.proofs.lemmas.List.Sums.{sum_by-cons}
use Rattle.std.proofs.lemmas.List.Sorted.{sum_by-IsPermutation}
use Rattle.std.specs.List.{AllByRecursion}
use Rattle.std.specs.List.Sorted.{IsPermutation, IsSortedBy}
use Rattle.std.specs.Ordering.{is_lt, ordering_then, nat_cmp}
use Rattle.td_trigger.specs.declared.range.Range.{Range}
use Rattle.td_trigger.specs.Ranges.{comes_first, put_in_order, in_order}
use Rattle.td_trigger.proofs.Lists.{each_weaker}

-- ---- the order
pub record Le (r s : Range) : Type 0 where
  pub lo : r.lo ≤ s.lo
  pub hi : r.lo ≡ s.lo → r.hi ≤ s.hi

first_le : (r s : Range) → comes_first r s ≡ true → Le r s
first_le r s h = go (or_cases (ltb r.lo s.lo) (eqb r.lo s.lo && leb r.hi s.hi) h)
  where
    go : (ltb r.lo s.lo ≡ true) ⊎ ((eqb r.lo s.lo && leb r.hi s.hi) ≡ true) → Le r s
    go (inl a) = let l = ltb-true r.lo s.lo a in record { lo = omega arith; hi = λ e. absurd (omega arith) }
    go (inr a) =
        let p = and_parts (eqb r.lo s.lo) (leb r.hi s.hi) a in
        let e = eqb-true r.lo s.lo p.0 in
        let l = leb-true r.hi s.hi p.1 in
        record { lo = omega arith; hi = λ d. l }

le_first : (r s : Range) → Le r s → comes_first r s ≡ true
le_first r s h = go (cases_order r.lo s.lo)
  where
    go : (r.lo ≡ s.lo) ⊎ ((r.lo < s.lo) ⊎ (s.lo < r.lo)) → comes_first r s ≡ true
    go (inl e) =
        let a : ltb r.lo s.lo ≡ false = le-ltb r.lo s.lo (omega arith) in
        let b : eqb r.lo s.lo ≡ true = eq-eqb r.lo s.lo e in
        let c : leb r.hi s.hi ≡ true = le-leb r.hi s.hi (h.hi e) in
        rw (a, b, c)
    go (inr (inl l)) = let a : ltb r.lo s.lo ≡ true = lt-ltb r.lo s.lo l in rw a
    go (inr (inr l)) = let k = h.lo in absurd (omega arith)

le_trans : (r s t : Range) → Le r s → Le s t → Le r t
le_trans r s t h k =
    let a = h.lo in
    let b = k.lo in
    record {
      lo = omega arith;
      hi = λ e. let c = h.hi (omega arith) in let d = k.hi (omega arith) in omega arith;
    }

-- one of two ranges comes first
other_first : (r s : Range) → comes_first r s ≡ false → Le s r
other_first r s h = go (cases_order r.lo s.lo)
  where
    go : (r.lo ≡ s.lo) ⊎ ((r.lo < s.lo) ⊎ (s.lo < r.lo)) → Le s r
    go (inl e) = record { lo = omega arith; hi = λ d. upper (cases_Bool (leb r.hi s.hi)) }
      where
        upper : (leb r.hi s.hi ≡ true) ⊎ (leb r.hi s.hi ≡ false) → s.hi ≤ r.hi
        upper (inl t) =
            let l = leb-true r.hi s.hi t in
            absurd (both_ways (comes_first r s) h (le_first r s (record { lo = omega arith; hi = λ d. l })))
        upper (inr t) = let l = leb-false r.hi s.hi t in omega arith
    go (inr (inl l)) = absurd (both_ways (comes_first r s) h (le_first r s (record { lo = omega arith; hi = λ d. absurd (omega arith) })))
    go (inr (inr l)) = record { lo = omega arith; hi = λ d. absurd (omega arith) }

same_place : (r s : Range) → Le r s → Le s r → r ≡ s
same_place r s h k =
    let a = h.lo in
    let b = k.lo in
    let d : r.lo ≡ s.lo = omega arith in
    let x = h.hi d in
    let y = k.hi (sym d) in
    let e : r.hi ≡ s.hi = omega arith in
    ap (λ l. record { lo = l; hi = r.hi }) d ∙ ap (λ u. record { lo = s.lo; hi = u }) e

-- ---- lists in order
unfoldable pub InOrder : List Range → Type 0
InOrder [] = Unit {0}
InOrder (r ∷ rs) = AllByRecursion (Le r) rs × InOrder rs

pub put_each : (P : Range → Type 0) (r : Range) (rs : List Range) → P r → AllByRecursion P rs → AllByRecursion P (put_in_order r rs)
put_each P r [] p h = (p, tt)
put_each P r (s ∷ rs) p h = elim (comes_first r s) as (λ t. AllByRecursion P (cond t (r ∷ s ∷ rs) (s ∷ put_in_order r rs))) [ true ↦ (p, (h.0, h.1)) | false ↦ (h.0, put_each P r rs p h.1) ]

put_ordered : (r : Range) (rs : List Range) → InOrder rs → InOrder (put_in_order r rs)
unfolding InOrder
put_ordered r [] h = (tt, tt)
put_ordered r (s ∷ rs) h = go (put_ordered r rs h.1) (comes_first r s) refl
  where
    go : InOrder (put_in_order r rs) → (t : Bool) → comes_first r s ≡ t → InOrder (put_in_order r (s ∷ rs))
    go rest true e =
        let l = first_le r s e in
        rw e ((l, each_weaker (Le s) (Le r) (λ u k. le_trans r s u l k) rs h.0), (h.0, h.1))
    go rest false e = rw e (put_each (Le s) r rs (other_first r s e) h.0, rest)

pub all_ordered : (rs : List Range) → InOrder (in_order rs)
unfolding InOrder
all_ordered [] = tt
all_ordered (r ∷ rs) = put_ordered r (in_order rs) (all_ordered rs)

-- ---- what is in a list, however it is ordered
SameSums : List Range → List Range → Type 0
SameSums rs ss = (f : Range → ℕ) → sum_by f rs ≡ sum_by f ss

put_sum : (f : Range → ℕ) (r : Range) (rs : List Range) → sum_by f (put_in_order r rs) ≡ f r + sum_by f rs
put_sum f r [] = sum_by-cons f r []
put_sum f r (s ∷ rs) = go (put_sum f r rs) (comes_first r s) refl
  where
    go : sum_by f (put_in_order r rs) ≡ f r + sum_by f rs → (t : Bool) → comes_first r s ≡ t → sum_by f (put_in_order r (s ∷ rs)) ≡ f r + sum_by f (s ∷ rs)
    go a true e = rw e (sum_by-cons f r (s ∷ rs))
    go a false e =
        let b = sum_by-cons f s rs in
        rw e (sum_by-cons f s (put_in_order r rs) ∙ omega (arith, a, b))

in_order_sum : (rs : List Range) → SameSums (in_order rs) rs
unfolding SameSums
in_order_sum [] f = refl
in_order_sum (r ∷ rs) f = put_sum f r (in_order rs) ∙ ap (λ n. f r + n) (in_order_sum rs f) ∙ sym (sum_by-cons f r rs)

no_sum : (f : Range → ℕ) (rs : List Range) → AllByRecursion (λ r. f r ≡ 0) rs → sum_by f rs ≡ 0
no_sum f [] h = refl
no_sum f (r ∷ rs) h = sum_by-cons f r rs ∙ (let a = h.0 in let b = no_sum f rs h.1 in omega (arith, a, b))

-- the first of two lists is no greater than the first of the other
first_of_both : (r : Range) (rs : List Range) (s : Range) (ss : List Range) → AllByRecursion (Le r) rs → SameSums (r ∷ rs) (s ∷ ss) → Le r s
unfolding SameSums
first_of_both r rs s ss h same = go (comes_first r s) refl
  where
    not_first : Range → ℕ
    not_first u = cond (comes_first r u) 0 1

    is_first : (u : Range) → Le r u → not_first u ≡ 0
    is_first u k = let e = le_first r u k in rw e

    itself : Le r r
    itself = record { lo = omega arith; hi = λ d. omega arith }

    go : (t : Bool) → comes_first r s ≡ t → Le r s
    go true e = first_le r s e
    go false e =
        let none : sum_by not_first (r ∷ rs) ≡ 0 = no_sum not_first (r ∷ rs) (is_first r itself, each_weaker (Le r) (λ u. not_first u ≡ 0) is_first rs h) in
        let one : not_first s ≡ 1 = rw e in
        let whole = sum_by-cons not_first s ss in
        let both = same not_first in
        absurd (omega (arith, none, one, whole, both))

one_order : (rs ss : List Range) → InOrder rs → InOrder ss → SameSums rs ss → rs ≡ ss
unfolding InOrder SameSums
one_order [] [] h k same = refl
one_order [] (s ∷ ss) h k same = let a = same (λ u. 1) in let b = sum_by-cons (λ (u : Range). 1) s ss in absurd (omega (arith, a, b))
one_order (r ∷ rs) [] h k same = let a = same (λ u. 1) in let b = sum_by-cons (λ (u : Range). 1) r rs in absurd (omega (arith, a, b))
one_order (r ∷ rs) (s ∷ ss) h k same =
    let e : r ≡ s = same_place r s (first_of_both r rs s ss h.0 same) (first_of_both s ss r rs k.0 (λ f. sym (same f))) in
    let rest : rs ≡ ss = one_order rs ss h.1 k.1 (λ f. let a = same f in let b = sum_by-cons f r rs in let c = sum_by-cons f s ss in let d = ap f e in omega (arith, a, b, c, d)) in
    ap (λ (u : Range). u ∷ rs) e ∙ ap (λ l. s ∷ l) rest

-- ---- a sorted list is the list in order
neighbours_order : (rs : List Range) → ((k : ℕ) (d : Range) → suc k < length rs → Le (get_or rs k d) (get_or rs (suc k) d)) → InOrder rs
unfolding InOrder
neighbours_order [] h = tt
neighbours_order (r ∷ []) h = (tt, tt)
neighbours_order (r ∷ s ∷ rs) h =
    let first : Le r s = h 0 r (omega arith) in
    let rest : InOrder (s ∷ rs) = neighbours_order (s ∷ rs) (λ k d l. h (suc k) d (omega arith)) in
    ((first, each_weaker (Le s) (Le r) (λ u l. le_trans r s u first l) rs rest.0), rest)

not_less : (r s : Range) → is_lt (ordering_then (nat_cmp s.lo r.lo) (nat_cmp s.hi r.hi)) ≡ false → Le r s
not_less r s h = go (cases_order s.lo r.lo) (cases_order s.hi r.hi)
  where
    go : (s.lo ≡ r.lo) ⊎ ((s.lo < r.lo) ⊎ (r.lo < s.lo)) → (s.hi ≡ r.hi) ⊎ ((s.hi < r.hi) ⊎ (r.hi < s.hi)) → Le r s
    go (inl e) (inl d) = record { lo = omega arith; hi = λ f. omega arith }
    go (inl e) (inr (inr d)) = record { lo = omega arith; hi = λ f. omega arith }
    go (inl e) (inr (inl d)) =
        let a : ltb s.lo r.lo ≡ false = le-ltb s.lo r.lo (omega arith) in
        let b : eqb s.lo r.lo ≡ true = eq-eqb s.lo r.lo e in
        let c : ltb s.hi r.hi ≡ true = lt-ltb s.hi r.hi d in
        absurd (true≢false (rw (a, b, c) at h))
    go (inr (inl l)) d = let a : ltb s.lo r.lo ≡ true = lt-ltb s.lo r.lo l in absurd (true≢false (rw a at h))
    go (inr (inr l)) d = record { lo = omega arith; hi = λ f. absurd (omega arith) }

pub sorted_is : (before after : List Range) → IsPermutation before after → IsSortedBy (λ r s. is_lt (ordering_then (nat_cmp r.lo s.lo) (nat_cmp r.hi s.hi))) after → after ≡ in_order before
unfolding SameSums
sorted_is before after moved sorted = one_order after (in_order before) (neighbours_order after near) (all_ordered before) (λ f. sum_by-IsPermutation f before after moved ∙ sym (in_order_sum before f))
  where
    near : (k : ℕ) (d : Range) → suc k < length after → Le (get_or after k d) (get_or after (suc k) d)
    near k d l =
        let e : k + 1 ≡ suc k = omega arith in
        subst (λ n. Le (get_or after k d) (get_or after n d)) e (not_less (get_or after k d) (get_or after (k + 1) d) (sorted k d (omega arith) (omega arith)))
