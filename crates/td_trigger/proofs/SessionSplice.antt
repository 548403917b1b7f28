-- Why sessions are spliced.
use Rattle.std.proofs.Common.{◌≡◌, ◌⊎◌, ℕ, ◌+◌, ◌-◌, ◌<◌, ◌≤◌, leb, ltb, Bool, true, false, not, ◌&&◌, cond, List, [], ◌∷◌, ◌++◌, map, filter, refl, sym, ap, subst, arith, inl, inr}
use Rattle.std.proofs.lemmas.Bool.{leb-true, leb-false, lt-ltb, ltb-true, and_parts, and_cases, not-false}
use Rattle.std.specs.List.{AllByRecursion}
use Rattle.std.specs.List.Sorted.{IsNonDecreasingBy}
use Rattle.td_model.specs.declared.language.WindowDef.TheVariants.{Session}
use Rattle.td_window.specs.Windows.{cut, window_of_group, session_windows}
use Rattle.td_trigger.specs.declared.range.Range.{Range}
use Rattle.td_trigger.specs.Ranges.{holds, taking_in, in_order, joined, IsRange, AreApart}
use Rattle.td_trigger.specs.Regions.{widened_session, region}
use Rattle.td_trigger.specs.Splices.{is_touched, rows_in, window_reach, spliced, SessionsSplice}
use Rattle.td_trigger.proofs.Lists.{each_weaker, each_map, each_by_filter, each_passing, two_of_each, first_is_least, rest_in_order}
use Rattle.td_trigger.proofs.Covering.{Within, regions_apart, regions_are_ranges, each_region}
use Rattle.td_trigger.proofs.CutSplice.{CutAt, CutAtEach, cuts_splice}
use Rattle.td_trigger.proofs.CutRanges.{SpacedAt, spaced_both, spaced_within, apart_weaker, taking_in_reaches, taking_in_within, taking_in_each, touched_in_region, same_outside, Ordered, ranges, range_of, ordered_dont_fall, ranges_are, ranges_apart, rows_in_ranges}

module _ (tol t : ℕ) (r : Range) (ordered : IsRange r) where
  abbrev near : Range → Bool
  near w = leb r.lo (w.hi + tol) && leb w.lo (r.hi + tol)

  -- a timestamp of a window that isn't near the range lies far from it
  near_or_far : (ws : List Range) → Within t t ws → Within t t (filter near ws) ⊎ SpacedAt tol t r
  near_or_far [] w = absurd w
  near_or_far (v ∷ ws) (inr w) = go (near_or_far ws w)
    where
      go : Within t t (filter near ws) ⊎ SpacedAt tol t r → Within t t (filter near (v ∷ ws)) ⊎ SpacedAt tol t r
      go (inl k) = inl (elim (near v) as (λ b. Within t t (cond b (v ∷ filter near ws) (filter near ws))) [ true ↦ inr k | false ↦ k ])
      go (inr k) = inr k
  near_or_far (v ∷ ws) (inl w) = go (near v) refl
    where
      far : (leb r.lo (v.hi + tol) ≡ false) ⊎ (leb v.lo (r.hi + tol) ≡ false) → SpacedAt tol t r
      far (inl e) = let l = leb-false r.lo (v.hi + tol) e in let x = w.0 in let y = w.1 in (λ k. omega arith, λ k. absurd (omega arith))
      far (inr e) = let l = leb-false v.lo (r.hi + tol) e in let x = w.0 in let y = w.1 in (λ k. absurd (omega arith), λ k. omega arith)

      go : (b : Bool) → near v ≡ b → Within t t (filter near (v ∷ ws)) ⊎ SpacedAt tol t r
      go true e = inl (rw e (inl w))
      go false e = inr (far (and_cases (leb r.lo (v.hi + tol)) (leb v.lo (r.hi + tol)) e))

  -- a timestamp of an old window lies in a widened range, or far from it
  widened_spaced : (ws : List Range) → Within t t ws → AllByRecursion (SpacedAt tol t) ws → SpacedAt tol t (widened_session tol ws r)
  widened_spaced ws w h = go (near_or_far ws w)
    where
      go : Within t t (filter near ws) ⊎ SpacedAt tol t r → SpacedAt tol t (taking_in r (filter near ws))
      go (inl k) = let i = taking_in_within t t r (filter near ws) k in let a = i.0 in let b = i.1 in (λ l. absurd (omega arith), λ l. absurd (omega arith))
      go (inr k) = taking_in_each (SpacedAt tol t) (spaced_both tol t) r (filter near ws) k (each_passing (SpacedAt tol t) near ws h)

module _ {A : Type 0} (time : A → ℕ) (column : List ℕ) (tol : ℕ) where
  abbrev apart : A → A → Bool
  apart a b = ltb tol (time b - time a)

  abbrev R : A → A → Type 0
  R x y = time x ≤ time y

  rises : (x y : A) → R x y → time x ≤ time y
  rises x y h = h

  spaced : (x y : A) → R x y → apart x y ≡ true → time x + tol < time y
  spaced x y h e = let l = ltb-true tol (time y - time x) e in omega arith

  ordered_rows : (rows : List A) → IsNonDecreasingBy time rows → Ordered time apart R tol rises spaced rows
  ordered_rows [] h = tt
  ordered_rows (x ∷ rows) h = (first_is_least time x rows h, ordered_rows rows (rest_in_order time x rows h))

  abbrev old : List A → List Range
  old rows = ranges time apart R tol rises spaced rows

  reaches : (groups : List (A × List A)) → map (window_reach (Session column tol)) (map (window_of_group time) groups) ≡ map (range_of time apart R tol rises spaced) groups
  reaches [] = refl
  reaches (g ∷ groups) = ap (λ (l : List Range). range_of time apart R tol rises spaced g ∷ l) (reaches groups)

  -- rows that lie far from each region, or in it, are cut at its ends
  cut_at_ends : (rows : List A) (regions : List Range) → AllByRecursion (λ x. AllByRecursion (SpacedAt tol (time x)) regions) rows → CutAtEach time apart regions rows
  cut_at_ends rows [] h = tt
  cut_at_ends rows (r ∷ regions) h = ((at_lo, at_hi), cut_at_ends rows regions (each_weaker (λ x. AllByRecursion (SpacedAt tol (time x)) (r ∷ regions)) (λ x. AllByRecursion (SpacedAt tol (time x)) regions) (λ x k. k.1) rows h))
    where
      both : (l : List A) (x y : A) (m : List A) → rows ≡ l ++ x ∷ y ∷ m → SpacedAt tol (time x) r × SpacedAt tol (time y) r
      both l x y m e = let k = two_of_each (λ x. AllByRecursion (SpacedAt tol (time x)) (r ∷ regions)) l x y m (subst (AllByRecursion (λ x. AllByRecursion (SpacedAt tol (time x)) (r ∷ regions))) e h) in (k.0.0, k.1.0)

      at_lo : CutAt time apart r.lo rows
      at_lo l x y m e a b = let k = (both l x y m e).0.0 a in lt-ltb tol (time y - time x) (omega arith)

      at_hi : CutAt time apart (r.hi + 1) rows
      at_hi l x y m e a b = let k = (both l x y m e).1.1 (omega arith) in lt-ltb tol (time y - time x) (omega arith)

  pub sessions_splice : SessionsSplice time column tol
  sessions_splice touched before after change up_b up_a =
      let P : List Range → Type 0 = λ ws. session_windows time tol after ≡ spliced (Session column tol) (region touched ws (Session column tol)) (session_windows time tol before) (λ r. session_windows time tol (rows_in time r after)) in
      subst P (sym (reaches (cut apart before))) (cuts_splice time apart regions before after (regions_are_ranges tol (map f touched) (each_map f IsRange touched (each_weaker IsRange (λ r. IsRange (f r)) wide_range touched change.ranges))) (apart_weaker tol regions are_apart) (ordered_dont_fall time apart R tol rises spaced before ord_b) (ordered_dont_fall time apart R tol rises spaced after (ordered_rows after up_a)) (cut_at_ends before regions far_before) (cut_at_ends after regions far_after) (same_outside time touched regions covered before after change.others_stay))
    where
      ord_b : Ordered time apart R tol rises spaced before
      ord_b = ordered_rows before up_b

      f : Range → Range
      f = widened_session tol (old before)

      regions : List Range
      regions = joined tol (in_order (map f touched))

      are_apart : AreApart tol regions
      are_apart = regions_apart tol (map f touched)

      wide_range : (r : Range) → IsRange r → IsRange (f r)
      wide_range r h = let k = taking_in_reaches r (filter (near tol 0 r h) (old before)) in let a = k.0 in let b = k.1 in omega arith

      covered : (t : ℕ) → is_touched touched t ≡ true → Within t t regions
      covered t = touched_in_region tol t f wide touched
        where
          wide : (r : Range) → holds r t ≡ true → ((f r).lo ≤ t) × (t ≤ (f r).hi)
          wide r e =
              let b = and_parts (leb r.lo t) (leb t r.hi) e in
              let l = leb-true r.lo t b.0 in
              let u = leb-true t r.hi b.1 in
              let k = taking_in_reaches r (filter (λ w. leb r.lo (w.hi + tol) && leb w.lo (r.hi + tol)) (old before)) in
              let x = k.0 in
              let y = k.1 in
              (omega arith, omega arith)

      far_before : AllByRecursion (λ x. AllByRecursion (SpacedAt tol (time x)) regions) before
      far_before = each_weaker (λ x. Within (time x) (time x) (old before)) (λ x. AllByRecursion (SpacedAt tol (time x)) regions) far before (rows_in_ranges time apart R tol rises spaced before ord_b)
        where
          far : (x : A) → Within (time x) (time x) (old before) → AllByRecursion (SpacedAt tol (time x)) regions
          far x w =
              each_region (SpacedAt tol (time x)) (spaced_both tol (time x)) tol (map f touched) (each_map f (SpacedAt tol (time x)) touched (each_weaker IsRange (λ r. SpacedAt tol (time x) (f r)) (λ r h. widened_spaced tol (time x) r h (old before) w (spaced_within tol (time x) (old before) (ranges_apart time apart R tol rises spaced before ord_b) (ranges_are time apart R tol rises spaced before ord_b) w)) touched change.ranges))

      far_after : AllByRecursion (λ x. AllByRecursion (SpacedAt tol (time x)) regions) after
      far_after = each_by_filter (λ x. AllByRecursion (SpacedAt tol (time x)) regions) (λ x. not (is_touched touched (time x))) new after (subst (AllByRecursion (λ x. AllByRecursion (SpacedAt tol (time x)) regions)) change.others_stay (each_passing (λ x. AllByRecursion (SpacedAt tol (time x)) regions) (λ x. not (is_touched touched (time x))) before far_before))
        where
          new : (x : A) → not (is_touched touched (time x)) ≡ false → AllByRecursion (SpacedAt tol (time x)) regions
          new x e = spaced_within tol (time x) regions (regions_apart tol (map f touched)) (regions_are_ranges tol (map f touched) (each_map f IsRange touched (each_weaker IsRange (λ r. IsRange (f r)) wide_range touched change.ranges))) (covered (time x) (not-false (is_touched touched (time x)) e))
