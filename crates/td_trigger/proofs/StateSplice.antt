-- Why state windows are spliced.
use mathlib.Core.Path.{fun_ext}
use Rattle.std.proofs.Common.{◌≡◌, ◌⊎◌, ℕ, suc, ◌+◌, ◌<◌, ◌≤◌, leb, Bool, true, false, not, List, [], ◌∷◌, ◌++◌, map, filter, slice_index, refl, sym, ap, ◌∙◌, subst, arith, inl, inr}
use Rattle.std.proofs.lemmas.Bool.{leb-true, and_parts, not-false, not_from_false, false_from_ne_true, cases_lt}
use Rattle.std.proofs.lemmas.List.{append-nil, append_assoc}
use Rattle.std.proofs.lemmas.List.Elements.{recursion_from_All, filter-append}
use Rattle.std.specs.List.{AllByRecursion}
use Rattle.std.specs.List.Sorted.{IsStrictlyIncreasing}
use Rattle.td_layer.specs.declared.values.Value.{Value}
use Rattle.td_limits.specs.declared.limits.TheConstants.{LAST_TIMESTAMP}
use Rattle.td_model.specs.declared.language.WindowDef.TheVariants.{State}
use Rattle.td_window.specs.Windows.{Window, cut, window_of_group, isnt_null, is_same_state, state_windows}
use Rattle.td_trigger.specs.declared.range.Range.{Range}
use Rattle.td_trigger.specs.Ranges.{holds, in_order, joined, IsRange, AreApart}
use Rattle.td_trigger.specs.Regions.{widened_state, region}
use Rattle.td_trigger.specs.Splices.{is_touched, untouched, rows_in, window_reach, spliced, StatesSplice}
use Rattle.td_trigger.proofs.Lists.{each_weaker, each_append, each_map, each_of_map, each_both, each_by_filter, each_passing, each_middle, each_front, each_back, each_in_itself, two_of_each, filter_swap, each_true, in_filter, In, at_in}
use Rattle.td_trigger.proofs.Covering.{Within, regions_apart, regions_are_ranges, each_region, back_from_region}
use Rattle.td_trigger.proofs.CutSplice.{CutAt, CutAtEach, windows, cuts_splice}
use Rattle.td_trigger.proofs.CutRanges.{touched_in_region, same_outside_of, Ordered, ranges, range_of, ordered_dont_fall, ranges_are, ranges_apart, rows_in_ranges, neighbours_in_range, filter_ordered, rows_at_ends, HasRowAt, neighbours_among}
use Rattle.td_trigger.proofs.StateRanges.{NotSplit, not_split_both, widened_not_split, OneSide, one_side_parts, one_side_each, two_sides, apart_before, apart_after, reaches_left, reaches_right, reaches_itself, is_range, some_touched}

-- ---- windows that aren't split by a region
within_not_split : (r : Range) (a b : ℕ) (ws : List Range) → AllByRecursion (λ u. NotSplit u r) ws → Within a b ws → ((a < r.lo → b < r.lo) × (r.hi < b → r.hi < a))
within_not_split r a b [] h w = absurd w
within_not_split r a b (u ∷ ws) h (inl w) = let x = w.0 in let y = w.1 in let k = h.0 in (λ l. let m = k.0 (omega arith) in omega arith, λ l. let m = k.1 (omega arith) in omega arith)
within_not_split r a b (u ∷ ws) h (inr w) = within_not_split r a b ws h.1 w

within_at_least : (p a b : ℕ) (ws : List Range) → AllByRecursion (λ u. p ≤ u.lo) ws → Within a b ws → p ≤ a
within_at_least p a b [] h w = absurd w
within_at_least p a b (u ∷ ws) h (inl w) = let x = w.0 in let y = h.0 in omega arith
within_at_least p a b (u ∷ ws) h (inr w) = within_at_least p a b ws h.1 w

within_less : (p a b : ℕ) (ws : List Range) → AllByRecursion (λ u. u.hi < p) ws → Within a b ws → b < p
within_less p a b [] h w = absurd w
within_less p a b (u ∷ ws) h (inl w) = let x = w.1 in let y = h.0 in omega arith
within_less p a b (u ∷ ws) h (inr w) = within_less p a b ws h.1 w

-- a list that isn't empty, with its last item
to_end : (r : Range) (rs : List Range) → (front : List Range) × (s : Range) × (r ∷ rs ≡ front ++ s ∷ [])
to_end r [] = ([], r, refl)
to_end r (s ∷ rs) = let h = to_end s rs in (r ∷ h.0, h.1, ap (λ (l : List Range). r ∷ l) h.2)

module _ {A : Type 0} (time : A → ℕ) (state : A → Value) (column : List ℕ) where
  abbrev apart : A → A → Bool
  apart a b = not (is_same_state (state a) (state b))

  abbrev R : A → A → Type 0
  R x y = time x < time y

  rises : (x y : A) → R x y → time x ≤ time y
  rises x y h = omega arith

  spaced : (x y : A) → R x y → apart x y ≡ true → time x + 0 < time y
  spaced x y h e = omega arith

  abbrev InOrder : List A → Type 0
  InOrder = Ordered time apart R 0 rises spaced

  abbrev old : List A → List Range
  old rows = ranges time apart R 0 rises spaced rows

  ordered_rows : (rows : List A) → IsStrictlyIncreasing (map time rows) → InOrder rows
  ordered_rows [] h = tt
  ordered_rows (x ∷ []) h = (tt, tt)
  ordered_rows (x ∷ y ∷ rows) h =
      let first : time x < time y = h 0 (omega arith) in
      let rest : InOrder (y ∷ rows) = ordered_rows (y ∷ rows) (λ k l. later k l) in
      ((first, each_weaker (R y) (R x) (λ z m. omega arith) rows rest.0), rest)
    where
      later : IsStrictlyIncreasing (map time (y ∷ rows))
      later k l =
          let e : suc k + 1 ≡ suc (k + 1) = omega arith in
          let P : ℕ → Type 0 = λ n. slice_index (map time (x ∷ y ∷ rows)) (suc k) < slice_index (map time (x ∷ y ∷ rows)) n in
          subst P e (h (suc k) (omega arith))

  reaches : (groups : List (A × List A)) → map (window_reach (State column)) (map (window_of_group time) groups) ≡ map (range_of time apart R 0 rises spaced) groups
  reaches [] = refl
  reaches (g ∷ groups) = ap (λ (l : List Range). range_of time apart R 0 rises spaced g ∷ l) (reaches groups)

  -- ---- rows that have a state, before and after
  module _ (touched : List Range) (before after : List A) (ordered : AllByRecursion IsRange touched) (same : untouched time touched before ≡ untouched time touched after) (up_b : InOrder before) (up_a : InOrder after) (in_a : AllByRecursion (λ x. time x ≤ LAST_TIMESTAMP) after) where
    abbrev ws : List Range
    ws = old before

    abbrev f : Range → Range
    f = widened_state ws

    abbrev regions : List Range
    regions = joined 0 (in_order (map f touched))

    are_apart : AreApart 0 ws
    are_apart = ranges_apart time apart R 0 rises spaced before up_b

    are_ranges : AllByRecursion IsRange ws
    are_ranges = ranges_are time apart R 0 rises spaced before up_b

    regions_ranges : AllByRecursion IsRange regions
    regions_ranges = regions_are_ranges 0 (map f touched) (each_map f IsRange touched (each_weaker IsRange (λ r. IsRange (f r)) (λ r h. is_range r ws h) touched ordered))

    covered : (t : ℕ) → t ≤ LAST_TIMESTAMP → is_touched touched t ≡ true → Within t t regions
    covered t h = touched_in_region 0 t f wide touched
      where
        wide : (r : Range) → holds r t ≡ true → ((f r).lo ≤ t) × (t ≤ (f r).hi)
        wide r e = let b = and_parts (leb r.lo t) (leb t r.hi) e in reaches_itself r ws t (leb-true r.lo t b.0) (leb-true t r.hi b.1) h

    -- each old window lies in a region or outside it
    not_split : AllByRecursion (λ u. AllByRecursion (NotSplit u) regions) ws
    not_split = each_weaker (λ u. In u ws) (λ u. AllByRecursion (NotSplit u) regions) one ws (each_in_itself ws)
      where
        one : (u : Range) → In u ws → AllByRecursion (NotSplit u) regions
        one u i = each_region (NotSplit u) (not_split_both u) 0 (map f touched) (each_map f (NotSplit u) touched (each_weaker IsRange (λ t. NotSplit u (f t)) (λ t h. at_in (λ u. NotSplit u (f t)) u ws (widened_not_split t h ws are_apart are_ranges) i) touched ordered))

    -- ---- before the change
    cut_before_at : (r : Range) → AllByRecursion (λ u. NotSplit u r) ws → CutAt time apart r.lo before × CutAt time apart (r.hi + 1) before
    cut_before_at r h = (at_lo, at_hi)
      where
        at_lo : CutAt time apart r.lo before
        at_lo l x y m e a b = go (apart x y) refl
          where
            go : (t : Bool) → apart x y ≡ t → apart x y ≡ true
            go true d = d
            go false d =
                let w = neighbours_in_range time apart R 0 rises spaced l x y m (subst InOrder e up_b) d in
                let k = within_not_split r (time x) (time y) ws h (subst (λ (rows : List A). Within (time x) (time y) (old rows)) (sym e) w) in
                let n = k.0 a in
                absurd (omega arith)

        at_hi : CutAt time apart (r.hi + 1) before
        at_hi l x y m e a b = go (apart x y) refl
          where
            go : (t : Bool) → apart x y ≡ t → apart x y ≡ true
            go true d = d
            go false d =
                let w = neighbours_in_range time apart R 0 rises spaced l x y m (subst InOrder e up_b) d in
                let k = within_not_split r (time x) (time y) ws h (subst (λ (rows : List A). Within (time x) (time y) (old rows)) (sym e) w) in
                let n = k.1 (omega arith) in
                absurd (omega arith)

    cut_before_each : (rs : List Range) → AllByRecursion (λ u. AllByRecursion (NotSplit u) rs) ws → CutAtEach time apart rs before
    cut_before_each [] h = tt
    cut_before_each (r ∷ rs) h = (cut_before_at r (each_weaker (λ u. AllByRecursion (NotSplit u) (r ∷ rs)) (λ u. NotSplit u r) (λ u k. k.0) ws h), cut_before_each rs (each_weaker (λ u. AllByRecursion (NotSplit u) (r ∷ rs)) (λ u. AllByRecursion (NotSplit u) rs) (λ u k. k.1) ws h))

    cut_before : CutAtEach time apart regions before
    cut_before = cut_before_each regions not_split

    -- ---- after the change, at an end of a region
    -- a row after the change is touched, or lies in an old window
    new_or_old : AllByRecursion (λ z. (is_touched touched (time z) ≡ true) ⊎ Within (time z) (time z) ws) after
    new_or_old = each_by_filter (λ z. (is_touched touched (time z) ≡ true) ⊎ Within (time z) (time z) ws) (λ z. not (is_touched touched (time z))) (λ z e. inl (not-false (is_touched touched (time z)) e)) after (subst (AllByRecursion (λ z. (is_touched touched (time z) ≡ true) ⊎ Within (time z) (time z) ws)) same (each_passing (λ z. (is_touched touched (time z) ≡ true) ⊎ Within (time z) (time z) ws) (λ z. not (is_touched touched (time z))) before (each_weaker (λ z. Within (time z) (time z) ws) (λ z. (is_touched touched (time z) ≡ true) ⊎ Within (time z) (time z) ws) (λ z w. inr w) before (rows_in_ranges time apart R 0 rises spaced before up_b))))

    module _ (p : ℕ) (sides : AllByRecursion (λ t. OneSide p (f t)) touched) (cut_b : CutAt time apart p before) (l : List A) (x y : A) (m : List A) (e : after ≡ l ++ x ∷ y ∷ m) (a : time x < p) (b : p ≤ time y) where
      abbrev Sided : Range → Type 0
      Sided t = OneSide p (f t) × IsRange t

      both_sided : AllByRecursion Sided touched
      both_sided = each_both (λ t. OneSide p (f t)) IsRange touched sides ordered

      abbrev NewOrOld : A → Type 0
      NewOrOld z = (is_touched touched (time z) ≡ true) ⊎ Within (time z) (time z) ws

      kinds : NewOrOld x × NewOrOld y
      kinds = two_of_each NewOrOld l x y m (subst (AllByRecursion NewOrOld) e new_or_old)

      within_time : (time x ≤ LAST_TIMESTAMP) × (time y ≤ LAST_TIMESTAMP)
      within_time = two_of_each (λ z. time z ≤ LAST_TIMESTAMP) l x y m (subst (AllByRecursion (λ z. time z ≤ LAST_TIMESTAMP)) e in_a)

      -- no old window begins before p: then no row comes before it
      none_before : (back : List Range) → ws ≡ back → AllByRecursion (λ u. p ≤ u.lo) back → AllByRecursion IsRange back → ⊥
      none_before back d high o = go kinds.0
        where
          go : NewOrOld x → ⊥
          go (inr w) = let k = within_at_least p (time x) (time x) back high (subst (Within (time x) (time x)) d w) in omega arith
          go (inl t) = some_touched ⊥ Sided (time x) touched both_sided hit t
            where
              hit : (t : Range) → Sided t → t.lo ≤ time x → time x ≤ t.hi → ⊥
              hit t s u v = first back d high o
                where
                  first : (back : List Range) → ws ≡ back → AllByRecursion (λ u. p ≤ u.lo) back → AllByRecursion IsRange back → ⊥
                  first [] d' high o =
                      let i = within_time.1 in
                      let k : OneSide p (widened_state [] t) = subst (λ (r : List Range). OneSide p (widened_state r t)) d' s.0 in
                      let n = k (omega arith) in
                      omega arith
                  first (v' ∷ back) d' high o =
                      let h = high.0 in
                      let i = o.0 in
                      let k = reaches_right t ws [] v' back d' tt o.0 (omega arith) in
                      let j = reaches_itself t ws (time x) u v within_time.0 in
                      let c = k.1 in
                      let g = j.0 in
                      let n = s.0 (omega arith) in
                      omega arith

      -- no old window ends at p or after it: then no row comes there
      none_after : (front : List Range) (v : Range) → ws ≡ front ++ v ∷ [] → AllByRecursion (λ u. u.hi < p) (front ++ v ∷ []) → IsRange v → ⊥
      none_after front v d low o = go kinds.1
        where
          go : NewOrOld y → ⊥
          go (inr w) = let k = within_less p (time y) (time y) (front ++ v ∷ []) low (subst (Within (time y) (time y)) d w) in omega arith
          go (inl t) = some_touched ⊥ Sided (time y) touched both_sided hit t
            where
              hit : (t : Range) → Sided t → t.lo ≤ time y → time y ≤ t.hi → ⊥
              hit t s u w =
                  let h = each_middle (λ u. u.hi < p) front v [] low in
                  let k = reaches_left t ws front v [] d tt o (omega arith) in
                  let j = reaches_itself t ws (time y) u w within_time.1 in
                  let c = k.0 in
                  let g = j.1 in
                  let n = s.0 (omega arith) in
                  omega arith

      -- an old window on each side: nothing from the end of one to the start of the other is touched
      module _ (front : List Range) (u : Range) (v : Range) (back : List Range) (d : ws ≡ front ++ u ∷ v ∷ back) (low : u.hi < p) (high : p ≤ v.lo) where
        apart_all : AreApart 0 (front ++ u ∷ v ∷ back)
        apart_all = subst (AreApart 0) d are_apart

        ranges_all : AllByRecursion IsRange (front ++ u ∷ v ∷ back)
        ranges_all = subst (AllByRecursion IsRange) d are_ranges

        range_u : IsRange u
        range_u = each_middle IsRange front u (v ∷ back) ranges_all

        range_rest : AllByRecursion IsRange (v ∷ back)
        range_rest = (each_back IsRange front (u ∷ v ∷ back) ranges_all).1

        split_at_v : front ++ u ∷ v ∷ back ≡ (front ++ u ∷ []) ++ v ∷ back
        split_at_v = sym (append_assoc front (u ∷ []) (v ∷ back))

        untouched_between : (t : Range) → Sided t → t.lo ≤ v.lo → u.hi ≤ t.hi → ⊥
        untouched_between t s h k =
            let later : AllByRecursion (λ w. t.lo ≤ w.hi) (v ∷ back) = each_weaker (λ w. (v.lo ≤ w.lo) × IsRange w) (λ w. t.lo ≤ w.hi) (λ w q. let i = q.0 in let j = q.1 in omega arith) (v ∷ back) (each_both (λ w. v.lo ≤ w.lo) IsRange (v ∷ back) rising range_rest) in
            let earlier : AllByRecursion (λ w. w.lo ≤ t.hi) (front ++ u ∷ []) = each_append (λ w. w.lo ≤ t.hi) front (u ∷ []) (each_weaker (λ w. (w.hi < u.lo) × IsRange w) (λ w. w.lo ≤ t.hi) (λ w q. let i = q.0 in let j = q.1 in let n = range_u in omega arith) front (each_both (λ w. w.hi < u.lo) IsRange front (apart_before front u (v ∷ back) apart_all) (each_front IsRange front (u ∷ v ∷ back) ranges_all))) (let n = range_u in omega arith, tt) in
            let c = reaches_left t ws front u (v ∷ back) d later range_u k in
            let g = reaches_right t ws (front ++ u ∷ []) v back (d ∙ split_at_v) earlier range_rest.0 h in
            let c0 = c.0 in
            let g1 = g.1 in
            let n = range_u in
            let o = range_rest.0 in
            let z = s.0 (omega arith) in
            omega arith
          where
            rising : AllByRecursion (λ w. v.lo ≤ w.lo) (v ∷ back)
            rising =
                let a' : AreApart 0 ((front ++ u ∷ []) ++ v ∷ back) = subst (AreApart 0) split_at_v apart_all in
                (omega arith, each_weaker (λ w. v.hi < w.lo) (λ w. v.lo ≤ w.lo) (λ w i. let o = range_rest.0 in omega arith) back (apart_after (front ++ u ∷ []) v back a'))

        not_touched : (t : ℕ) → u.hi ≤ t → t ≤ v.lo → not (is_touched touched t) ≡ true
        not_touched t i j = not_from_false (is_touched touched t) (false_from_ne_true (is_touched touched t) (some_touched ⊥ Sided t touched both_sided (λ r s g h. untouched_between r s (omega arith) (omega arith))))

        -- each row after the change lies at or before x, or at or after y
        beside : AllByRecursion (λ z. (time z ≤ time x) ⊎ (time y ≤ time z)) after
        beside = subst (AllByRecursion (λ z. (time z ≤ time x) ⊎ (time y ≤ time z))) (sym e) (both_sides l (subst InOrder e up_a))
          where
            both_sides : (l : List A) → InOrder (l ++ x ∷ y ∷ m) → AllByRecursion (λ z. (time z ≤ time x) ⊎ (time y ≤ time z)) (l ++ x ∷ y ∷ m)
            both_sides [] o = (inl (omega arith), (inr (omega arith), each_weaker (R y) (λ z. (time z ≤ time x) ⊎ (time y ≤ time z)) (λ z h. inr (omega arith)) m o.1.0))
            both_sides (z ∷ l) o = (inl (let h = each_middle (R z) l x (y ∷ m) o.0 in omega arith), both_sides l o.1)

        -- so does each untouched row before it
        old_beside : (z : A) → In z before → not (is_touched touched (time z)) ≡ true → (time z ≤ time x) ⊎ (time y ≤ time z)
        old_beside z i h = at_in (λ z. (time z ≤ time x) ⊎ (time y ≤ time z)) z (untouched time touched before) (subst (AllByRecursion (λ z. (time z ≤ time x) ⊎ (time y ≤ time z))) (sym same) (each_passing (λ z. (time z ≤ time x) ⊎ (time y ≤ time z)) (λ z. not (is_touched touched (time z))) after beside)) (in_filter (λ z. not (is_touched touched (time z))) z before h i)

        abbrev Ends : Range → Type 0
        Ends w = HasRowAt time apart R 0 rises spaced before w.lo × HasRowAt time apart R 0 rises spaced before w.hi

        ends_all : AllByRecursion Ends (front ++ u ∷ v ∷ back)
        ends_all = subst (AllByRecursion Ends) d (rows_at_ends time apart R 0 rises spaced before)

        x_above : u.hi ≤ time x
        x_above = go (each_middle Ends front u (v ∷ back) ends_all).1
          where
            go : HasRowAt time apart R 0 rises spaced before u.hi → u.hi ≤ time x
            go (z, i, t) = next (old_beside z i (not_touched (time z) (omega (arith, t)) (omega (arith, t))))
              where
                next : (time z ≤ time x) ⊎ (time y ≤ time z) → u.hi ≤ time x
                next (inl h) = omega (arith, t)
                next (inr h) = absurd (omega (arith, t))

        y_below : time y ≤ v.lo
        y_below = go (each_back Ends front (u ∷ v ∷ back) ends_all).1.0.0
          where
            go : HasRowAt time apart R 0 rises spaced before v.lo → time y ≤ v.lo
            go (z, i, t) = next (old_beside z i (not_touched (time z) (omega (arith, t)) (omega (arith, t))))
              where
                next : (time z ≤ time x) ⊎ (time y ≤ time z) → time y ≤ v.lo
                next (inl h) = absurd (omega (arith, t))
                next (inr h) = omega (arith, t)

        -- the two rows are neighbours before the change too
        apart_still : apart x y ≡ true
        apart_still =
            let h = x_above in
            let k = y_below in
            let untouched_x : not (is_touched touched (time x)) ≡ true = not_touched (time x) (omega arith) (omega arith) in
            let untouched_y : not (is_touched touched (time y)) ≡ true = not_touched (time y) (omega arith) (omega arith) in
            let left : untouched time touched before ≡ untouched time touched l ++ x ∷ y ∷ untouched time touched m = same ∙ ap (untouched time touched) e ∙ filter-append (λ z. not (is_touched touched (time z))) l (x ∷ y ∷ m) ∙ rw (untouched_x, untouched_y) refl in
            let n = neighbours_among time apart R 0 rises spaced (λ z. not (is_touched touched (time z))) x y untouched_x untouched_y before up_b (each_true (λ z. time x ≤ time z → time z ≤ time y → not (is_touched touched (time z)) ≡ true) (λ z i j. not_touched (time z) (omega arith) (omega arith)) before) (untouched time touched l) (untouched time touched m) left in
            cut_b n.0 x y n.1 n.2 a b

      finish : (init : List Range) (u : Range) (back : List Range) → ws ≡ (init ++ u ∷ []) ++ back → AllByRecursion (λ w. w.hi < p) (init ++ u ∷ []) → AllByRecursion (λ w. p ≤ w.lo) back → apart x y ≡ true
      finish init u [] d low high =
          let d' : ws ≡ init ++ u ∷ [] = d ∙ append-nil (init ++ u ∷ []) in
          absurd (none_after init u d' low (each_middle IsRange init u [] (subst (AllByRecursion IsRange) d' are_ranges)))
      finish init u (v ∷ back) d low high = apart_still init u v back (d ∙ append_assoc init (u ∷ []) (v ∷ back)) (each_middle (λ w. w.hi < p) init u [] low) high.0

      apart_at : (front back : List Range) → ws ≡ front ++ back → AllByRecursion (λ u. u.hi < p) front → AllByRecursion (λ u. p ≤ u.lo) back → apart x y ≡ true
      apart_at [] back d low high = absurd (none_before back d high (subst (AllByRecursion IsRange) d are_ranges))
      apart_at (w ∷ front) back d low high =
          let s = to_end w front in
          finish s.0 s.1 back (d ∙ ap (λ (l : List Range). l ++ back) s.2) (subst (AllByRecursion (λ u. u.hi < p)) s.2 low) high

    cut_after_at : (p : ℕ) → AllByRecursion (OneSide p) regions → AllByRecursion (OneSide p) ws → CutAt time apart p before → CutAt time apart p after
    cut_after_at p sides sides_ws cut_b l x y m e a b =
        let t = two_sides p ws are_apart are_ranges sides_ws in
        apart_at p (each_of_map f (OneSide p) touched (back_from_region (OneSide p) (one_side_parts p) 0 (map f touched) sides)) cut_b l x y m e a b t.0 t.1 t.2 t.3 t.4

    at_lo_side : (r u : Range) → NotSplit u r → OneSide r.lo u
    at_lo_side r u h = h.0

    at_hi_side : (r u : Range) → NotSplit u r → OneSide (r.hi + 1) u
    at_hi_side r u h l = go (cases_lt r.hi u.hi)
      where
        go : (r.hi < u.hi) ⊎ (u.hi ≤ r.hi) → u.hi < r.hi + 1
        go (inl k) = let n = h.1 k in absurd (omega arith)
        go (inr k) = omega arith

    cut_after_each : (rs : List Range) → AllByRecursion (λ r. AllByRecursion (OneSide r.lo) regions × AllByRecursion (OneSide (r.hi + 1)) regions) rs → AllByRecursion (λ u. AllByRecursion (NotSplit u) rs) ws → CutAtEach time apart rs before → CutAtEach time apart rs after
    cut_after_each [] h k c = tt
    cut_after_each (r ∷ rs) h k c =
        let here : AllByRecursion (λ u. NotSplit u r) ws = each_weaker (λ u. AllByRecursion (NotSplit u) (r ∷ rs)) (λ u. NotSplit u r) (λ u q. q.0) ws k in (
          (
            cut_after_at r.lo h.0.0 (each_weaker (λ u. NotSplit u r) (OneSide r.lo) (at_lo_side r) ws here) c.0.0,
            cut_after_at (r.hi + 1) h.0.1 (each_weaker (λ u. NotSplit u r) (OneSide (r.hi + 1)) (at_hi_side r) ws here) c.0.1,
          ),
          cut_after_each rs h.1 (each_weaker (λ u. AllByRecursion (NotSplit u) (r ∷ rs)) (λ u. AllByRecursion (NotSplit u) rs) (λ u q. q.1) ws k) c.1,
        )

    cut_after : CutAtEach time apart regions after
    cut_after = cut_after_each regions (one_side_each regions (regions_apart 0 (map f touched)) regions_ranges) not_split cut_before

  abbrev has_state : A → Bool
  has_state row = isnt_null (state row)

  pub states_splice : StatesSplice time state column
  states_splice touched before after change up_b up_a in_b in_a =
      let P : List Range → Type 0 = λ r. state_windows time state after ≡ spliced (State column) (region touched r (State column)) (state_windows time state before) (λ r. state_windows time state (rows_in time r after)) in
      let swap : (λ (r : Range). windows time apart (rows_in time r with_a)) ≡ (λ (r : Range). state_windows time state (rows_in time r after)) = fun_ext (λ (r : Range). ap (windows time apart) (filter_swap (λ row. holds r (time row)) has_state after)) in
      let plain = cuts_splice time apart (regions touched with_b with_a change.ranges same ord_b ord_a range_a) with_b with_a (regions_ranges touched with_b with_a change.ranges same ord_b ord_a range_a) (regions_apart 0 (map (f touched with_b with_a change.ranges same ord_b ord_a range_a) touched)) (ordered_dont_fall time apart R 0 rises spaced with_b ord_b) (ordered_dont_fall time apart R 0 rises spaced with_a ord_a) (cut_before touched with_b with_a change.ranges same ord_b ord_a range_a) (cut_after touched with_b with_a change.ranges same ord_b ord_a range_a) (same_outside_of time (λ t. t ≤ LAST_TIMESTAMP) touched (regions touched with_b with_a change.ranges same ord_b ord_a range_a) (covered touched with_b with_a change.ranges same ord_b ord_a range_a) with_b with_a range_b range_a same) in
      subst P (sym (reaches (cut apart with_b))) (plain ∙ ap (λ (g : Range → List (Window A)). spliced (State column) (regions touched with_b with_a change.ranges same ord_b ord_a range_a) (state_windows time state before) g) swap)
    where
      with_b : List A
      with_b = filter has_state before

      with_a : List A
      with_a = filter has_state after

      ord_b : InOrder with_b
      ord_b = filter_ordered time apart R 0 rises spaced has_state before (ordered_rows before up_b)

      ord_a : InOrder with_a
      ord_a = filter_ordered time apart R 0 rises spaced has_state after (ordered_rows after up_a)

      range_b : AllByRecursion (λ x. time x ≤ LAST_TIMESTAMP) with_b
      range_b = each_passing (λ x. time x ≤ LAST_TIMESTAMP) has_state before (recursion_from_All (λ x. time x ≤ LAST_TIMESTAMP) before in_b)

      range_a : AllByRecursion (λ x. time x ≤ LAST_TIMESTAMP) with_a
      range_a = each_passing (λ x. time x ≤ LAST_TIMESTAMP) has_state after (recursion_from_All (λ x. time x ≤ LAST_TIMESTAMP) after in_a)

      same : untouched time touched with_b ≡ untouched time touched with_a
      same =
          filter_swap (λ row. not (is_touched touched (time row))) has_state before ∙ ap (filter has_state) change.others_stay ∙ filter_swap has_state (λ row. not (is_touched touched (time row))) after
