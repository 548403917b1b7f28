-- Which old state windows a touched range takes in.
use Rattle.std.proofs.Common.{◌≡◌, ◌⊎◌, ℕ, ◌+◌, ◌-◌, ◌<◌, ◌≤◌, leb, ltb, Bool, true, false, ◌&&◌, List, [], ◌∷◌, ◌++◌, filter, length, refl, sym, ap, ◌∙◌, subst, arith, inl, inr}
use Rattle.std.proofs.lemmas.Bool.{leb-true, leb-false, le-leb, lt-ltb, le-ltb, and_parts, and_cases, and_from, or_cases, cases_lt}
use Rattle.std.proofs.lemmas.List.{drop_at, length-append}
use Rattle.std.proofs.lemmas.List.Elements.{filter-append}
use Rattle.std.specs.List.{AllByRecursion}
use Rattle.td_limits.specs.declared.limits.TheConstants.{LAST_TIMESTAMP}
use Rattle.td_trigger.specs.declared.range.Range.{Range}
use Rattle.td_trigger.specs.Ranges.{hull, holds, taking_in, IsRange, AreApart}
use Rattle.td_trigger.specs.Regions.{widened_state, state_neighbours, first_of, last_of}
use Rattle.td_trigger.specs.Splices.{is_touched}
use Rattle.td_trigger.proofs.Lists.{each_weaker, each_append, each_both, each_passing, each_take, each_drop, filter_none, In, in_filter, in_left, in_right, in_middle, each_in_itself}
use Rattle.td_trigger.proofs.CutRanges.{taking_in_reaches, taking_in_each}

pub taking_in_in : (v r : Range) (rs : List Range) → In v rs → ((taking_in r rs).lo ≤ v.lo) × (v.hi ≤ (taking_in r rs).hi)
taking_in_in v r [] i = absurd i
taking_in_in v r (s ∷ rs) (inl e) = let a = ap (λ (q : Range). q.lo) e in let b = ap (λ (q : Range). q.hi) e in (omega arith, omega arith)
taking_in_in v r (s ∷ rs) (inr i) = let h = taking_in_in v r rs i in let a = h.0 in let b = h.1 in (omega arith, omega arith)

module _ (t : Range) where
  abbrev meets : Range → Bool
  meets w = leb t.lo w.hi && leb w.lo t.hi

  each_neighbours : (P : Range → Type 0) (ws : List Range) → AllByRecursion P ws → AllByRecursion P (state_neighbours ws t)
  each_neighbours P ws h =
      let ending = filter (λ (w : Range). ltb w.hi t.lo) ws in
      let starting = filter (λ (w : Range). ltb t.hi w.lo) ws in
      each_append P (last_of ending ++ filter meets ws) (first_of starting) (each_append P (last_of ending) (filter meets ws) (each_drop P (length ending - 1) ending (each_passing P (λ w. ltb w.hi t.lo) ws h)) (each_passing P meets ws h)) (each_take P 1 starting (each_passing P (λ w. ltb t.hi w.lo) ws h))

  met : (v : Range) (ws : List Range) → In v ws → meets v ≡ true → In v (state_neighbours ws t)
  met v ws i e = in_left v (last_of (filter (λ w. ltb w.hi t.lo) ws) ++ filter meets ws) (first_of (filter (λ w. ltb t.hi w.lo) ws)) (in_right v (last_of (filter (λ w. ltb w.hi t.lo) ws)) (filter meets ws) (in_filter meets v ws e i))

  -- the last window of those that end before a window that ends at or above the range's lower end
  left_neighbour : (front : List Range) (v : Range) (back : List Range) → AllByRecursion (λ u. t.lo ≤ u.hi) back → IsRange v → v.hi ≤ t.hi → In v (state_neighbours (front ++ v ∷ back) t)
  left_neighbour front v back later o h = go (cases_lt v.hi t.lo)
    where
      ends : Range → Bool
      ends w = ltb w.hi t.lo

      go : (v.hi < t.lo) ⊎ (t.lo ≤ v.hi) → In v (state_neighbours (front ++ v ∷ back) t)
      go (inr l) = met v (front ++ v ∷ back) (in_middle front v back) (and_from (leb t.lo v.hi) (leb v.lo t.hi) (le-leb t.lo v.hi l) (le-leb v.lo t.hi (omega arith)))
      go (inl l) =
          let e : ends v ≡ true = lt-ltb v.hi t.lo l in
          let none : filter ends back ≡ [] = filter_none ends back (each_weaker (λ (u : Range). t.lo ≤ u.hi) (λ u. ends u ≡ false) (λ u k. le-ltb u.hi t.lo k) back later) in
          let whole : filter ends (front ++ v ∷ back) ≡ filter ends front ++ v ∷ [] = filter-append ends front (v ∷ back) ∙ rw (e, none) refl in
          let n : length (filter ends front ++ v ∷ []) - 1 ≡ length (filter ends front) = omega (arith, length-append (filter ends front) (v ∷ [])) in
          let last : last_of (filter ends (front ++ v ∷ back)) ≡ v ∷ [] = ap last_of whole ∙ drop_at (filter ends front) (v ∷ []) (length (filter ends front ++ v ∷ []) - 1) (sym n) in
          let i : In v (last_of (filter ends (front ++ v ∷ back))) = subst (In v) (sym last) (inl refl) in
          in_left v (last_of (filter ends (front ++ v ∷ back)) ++ filter meets (front ++ v ∷ back)) (first_of (filter (λ w. ltb t.hi w.lo) (front ++ v ∷ back))) (in_left v (last_of (filter ends (front ++ v ∷ back))) (filter meets (front ++ v ∷ back)) i)

  -- the first window of those that start after the range
  right_neighbour : (front : List Range) (v : Range) (back : List Range) → AllByRecursion (λ u. u.lo ≤ t.hi) front → IsRange v → t.lo ≤ v.lo → In v (state_neighbours (front ++ v ∷ back) t)
  right_neighbour front v back before o h = go (cases_lt t.hi v.lo)
    where
      starts : Range → Bool
      starts w = ltb t.hi w.lo

      go : (t.hi < v.lo) ⊎ (v.lo ≤ t.hi) → In v (state_neighbours (front ++ v ∷ back) t)
      go (inr l) = met v (front ++ v ∷ back) (in_middle front v back) (and_from (leb t.lo v.hi) (leb v.lo t.hi) (le-leb t.lo v.hi (omega arith)) (le-leb v.lo t.hi l))
      go (inl l) =
          let e : starts v ≡ true = lt-ltb t.hi v.lo l in
          let none : filter starts front ≡ [] = filter_none starts front (each_weaker (λ (u : Range). u.lo ≤ t.hi) (λ u. starts u ≡ false) (λ u k. le-ltb t.hi u.lo k) front before) in
          let whole : filter starts (front ++ v ∷ back) ≡ v ∷ filter starts back = filter-append starts front (v ∷ back) ∙ rw (e, none) refl in
          let i : In v (first_of (filter starts (front ++ v ∷ back))) = subst (In v) (sym (ap first_of whole)) (inl refl) in
          in_right v (last_of (filter (λ w. ltb w.hi t.lo) (front ++ v ∷ back)) ++ filter meets (front ++ v ∷ back)) (first_of (filter starts (front ++ v ∷ back))) i

  -- what is taken in
  taken_in : (ws : List Range) (v : Range) → In v ws → In v (state_neighbours ws t) → ((widened_state ws t).lo ≤ v.lo) × (v.hi ≤ (widened_state ws t).hi)
  taken_in [] v i k = absurd i
  taken_in (w ∷ ws) v i k = taking_in_in v t (state_neighbours (w ∷ ws) t) k

  pub reaches_left : (ws front : List Range) (v : Range) (back : List Range) → ws ≡ front ++ v ∷ back → AllByRecursion (λ u. t.lo ≤ u.hi) back → IsRange v → v.hi ≤ t.hi → ((widened_state ws t).lo ≤ v.lo) × (v.hi ≤ (widened_state ws t).hi)
  reaches_left ws front v back e later o h =
      subst (λ l. ((widened_state l t).lo ≤ v.lo) × (v.hi ≤ (widened_state l t).hi)) (sym e) (taken_in (front ++ v ∷ back) v (in_middle front v back) (left_neighbour front v back later o h))

  pub reaches_right : (ws front : List Range) (v : Range) (back : List Range) → ws ≡ front ++ v ∷ back → AllByRecursion (λ u. u.lo ≤ t.hi) front → IsRange v → t.lo ≤ v.lo → ((widened_state ws t).lo ≤ v.lo) × (v.hi ≤ (widened_state ws t).hi)
  reaches_right ws front v back e before o h =
      subst (λ l. ((widened_state l t).lo ≤ v.lo) × (v.hi ≤ (widened_state l t).hi)) (sym e) (taken_in (front ++ v ∷ back) v (in_middle front v back) (right_neighbour front v back before o h))

  pub reaches_itself : (ws : List Range) → (a : ℕ) → t.lo ≤ a → a ≤ t.hi → a ≤ LAST_TIMESTAMP → ((widened_state ws t).lo ≤ a) × (a ≤ (widened_state ws t).hi)
  reaches_itself [] a l u h = (omega arith, h)
  reaches_itself (w ∷ ws) a l u h = let k = taking_in_reaches t (state_neighbours (w ∷ ws) t) in let x = k.0 in let y = k.1 in (omega arith, omega arith)

  pub is_range : (ws : List Range) → IsRange t → IsRange (widened_state ws t)
  is_range [] h = omega arith
  is_range (w ∷ ws) h = let k = taking_in_reaches t (state_neighbours (w ∷ ws) t) in let x = k.0 in let y = k.1 in omega arith

-- ---- no window lies in part in a widened range
abbrev pub NotSplit : Range → Range → Type 0
NotSplit u r = (u.lo < r.lo → u.hi < r.lo) × (r.hi < u.hi → r.hi < u.lo)

pub not_split_both : (u r s : Range) → NotSplit u r → NotSplit u s → NotSplit u (hull r s)
not_split_both u r s h k = (
  λ l. let a = h.0 (omega arith) in let b = k.0 (omega arith) in omega arith,
  λ l. let a = h.1 (omega arith) in let b = k.1 (omega arith) in omega arith,
)

not_split_each : (rs : List Range) → AreApart 0 rs → AllByRecursion IsRange rs → AllByRecursion (λ u. AllByRecursion (NotSplit u) rs) rs
not_split_each [] a o = tt
not_split_each (r ∷ rs) a o =
    let mine : AllByRecursion (NotSplit r) (r ∷ rs) = ((λ l. absurd (omega arith), λ l. absurd (omega arith)), each_weaker (λ s. (r.hi + 0 < s.lo) × IsRange s) (NotSplit r) (λ s p. let x = p.0 in let y = p.1 in (λ l. omega arith, λ l. absurd (omega arith))) rs (each_both (λ s. r.hi + 0 < s.lo) IsRange rs a.0 o.1)) in
    let h = o.0 in
    (mine, each_weaker (λ u. (r.hi + 0 < u.lo) × AllByRecursion (NotSplit u) rs) (λ u. AllByRecursion (NotSplit u) (r ∷ rs)) (λ u p. let x = p.0 in ((λ l. absurd (omega arith), λ l. omega arith), p.1)) rs (each_both (λ u. r.hi + 0 < u.lo) (λ u. AllByRecursion (NotSplit u) rs) rs a.0 (not_split_each rs a.1 o.1)))

pub widened_not_split : (t : Range) → IsRange t → (ws : List Range) → AreApart 0 ws → AllByRecursion IsRange ws → AllByRecursion (λ u. NotSplit u (widened_state ws t)) ws
widened_not_split t ordered [] a o = tt
widened_not_split t ordered (w ∷ ws) a o =
    each_weaker (λ u. In u all × AllByRecursion (NotSplit u) all) (λ u. NotSplit u (taking_in t (state_neighbours all t))) one all (each_both (λ u. In u all) (λ u. AllByRecursion (NotSplit u) all) all (each_in_itself all) (not_split_each all a o))
  where
    all : List Range
    all = w ∷ ws

    one : (u : Range) → In u all × AllByRecursion (NotSplit u) all → NotSplit u (taking_in t (state_neighbours all t))
    one u p = go (meets t u) refl
      where
        apart : (leb t.lo u.hi ≡ false) ⊎ (leb u.lo t.hi ≡ false) → NotSplit u t
        apart (inl e) = let l = leb-false t.lo u.hi e in (λ k. l, λ k. absurd (omega arith))
        apart (inr e) = let l = leb-false u.lo t.hi e in (λ k. absurd (omega arith), λ k. l)

        go : (b : Bool) → meets t u ≡ b → NotSplit u (taking_in t (state_neighbours all t))
        go true e = let k = taking_in_in u t (state_neighbours all t) (met t u all p.0 e) in let x = k.0 in let y = k.1 in (λ l. absurd (omega arith), λ l. absurd (omega arith))
        go false e = taking_in_each (NotSplit u) (not_split_both u) t (state_neighbours all t) (apart (and_cases (leb t.lo u.hi) (leb u.lo t.hi) e)) (each_neighbours t (NotSplit u) all p.1)

-- ---- no widened range lies on both sides of an end of a region
abbrev pub OneSide : ℕ → Range → Type 0
OneSide p r = r.lo < p → r.hi < p

pub one_side_parts : (p : ℕ) (r s : Range) → OneSide p (hull r s) → OneSide p r × OneSide p s
one_side_parts p r s h = (λ l. let a = h (omega arith) in omega arith, λ l. let a = h (omega arith) in omega arith)

pub one_side_each : (rs : List Range) → AreApart 0 rs → AllByRecursion IsRange rs → AllByRecursion (λ r. AllByRecursion (OneSide r.lo) rs × AllByRecursion (OneSide (r.hi + 1)) rs) rs
one_side_each [] a o = tt
one_side_each (r ∷ rs) a o =
    let h = o.0 in (
      (
        (λ l. absurd (omega arith), each_weaker (λ s. r.hi + 0 < s.lo) (OneSide r.lo) (λ s x l. absurd (omega arith)) rs a.0),
        (λ l. omega arith, each_weaker (λ s. r.hi + 0 < s.lo) (OneSide (r.hi + 1)) (λ s x l. absurd (omega arith)) rs a.0),
      ),
      each_weaker (λ s. ((r.hi + 0 < s.lo) × IsRange s) × (AllByRecursion (OneSide s.lo) rs × AllByRecursion (OneSide (s.hi + 1)) rs)) (λ s. AllByRecursion (OneSide s.lo) (r ∷ rs) × AllByRecursion (OneSide (s.hi + 1)) (r ∷ rs)) (λ s q. let x = q.0.0 in let y = q.0.1 in ((λ l. omega arith, q.1.0), (λ l. omega arith, q.1.1))) rs (each_both (λ s. (r.hi + 0 < s.lo) × IsRange s) (λ s. AllByRecursion (OneSide s.lo) rs × AllByRecursion (OneSide (s.hi + 1)) rs) rs (each_both (λ s. r.hi + 0 < s.lo) IsRange rs a.0 o.1) (one_side_each rs a.1 o.1)),
    )

-- ---- windows on two sides of a timestamp
pub two_sides : (p : ℕ) (ws : List Range) → AreApart 0 ws → AllByRecursion IsRange ws → AllByRecursion (OneSide p) ws → (front back : List Range) × (ws ≡ front ++ back) × AllByRecursion (λ u. u.hi < p) front × AllByRecursion (λ u. p ≤ u.lo) back
two_sides p [] a o h = ([], [], refl, tt, tt)
two_sides p (w ∷ ws) a o h = go (λ x. two_sides p ws a.1 o.1 h.1) (cases_lt w.lo p)
  where
    go : (Unit {0} → (front back : List Range) × (ws ≡ front ++ back) × AllByRecursion (λ u. u.hi < p) front × AllByRecursion (λ u. p ≤ u.lo) back) → (w.lo < p) ⊎ (p ≤ w.lo) → (front back : List Range) × (w ∷ ws ≡ front ++ back) × AllByRecursion (λ u. u.hi < p) front × AllByRecursion (λ u. p ≤ u.lo) back
    go rest (inl l) = let r = rest tt in (w ∷ r.0, r.1, ap (λ (k : List Range). w ∷ k) r.2, (h.0 l, r.3), r.4)
    go rest (inr l) = let i = o.0 in ([], w ∷ ws, refl, tt, (l, each_weaker (λ u. w.hi + 0 < u.lo) (λ u. p ≤ u.lo) (λ u k. omega arith) ws a.0))

pub apart_before : (front : List Range) (v : Range) (back : List Range) → AreApart 0 (front ++ v ∷ back) → AllByRecursion (λ u. u.hi < v.lo) front
apart_before [] v back a = tt
apart_before (u ∷ front) v back a = (at_middle front a.0, apart_before front v back a.1)
  where
    at_middle : (ws : List Range) → AllByRecursion (λ s. u.hi + 0 < s.lo) (ws ++ v ∷ back) → u.hi < v.lo
    at_middle [] h = let k = h.0 in omega arith
    at_middle (w ∷ ws) h = at_middle ws h.1

pub apart_after : (front : List Range) (v : Range) (back : List Range) → AreApart 0 (front ++ v ∷ back) → AllByRecursion (λ u. v.hi < u.lo) back
apart_after [] v back a = each_weaker (λ s. v.hi + 0 < s.lo) (λ s. v.hi < s.lo) (λ s h. omega arith) back a.0
apart_after (u ∷ front) v back a = apart_after front v back a.1

-- ---- a touched timestamp lies in a touched range
pub some_touched : (C : Type 0) (Q : Range → Type 0) (a : ℕ) (touched : List Range) → AllByRecursion Q touched → ((t : Range) → Q t → t.lo ≤ a → a ≤ t.hi → C) → is_touched touched a ≡ true → C
some_touched C Q a [] h f e = absurd (cc)
some_touched C Q a (t ∷ touched) h f e = go (λ k. some_touched C Q a touched h.1 f k) (or_cases (holds t a) (is_touched touched a) e)
  where
    go : (is_touched touched a ≡ true → C) → (holds t a ≡ true) ⊎ (is_touched touched a ≡ true) → C
    go rest (inl k) = let b = and_parts (leb t.lo a) (leb a t.hi) k in f t h.0 (leb-true t.lo a b.0) (leb-true a t.hi b.1)
    go rest (inr k) = rest k
