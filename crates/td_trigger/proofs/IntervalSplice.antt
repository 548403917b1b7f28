-- Why interval windows are spliced.
use Rattle.std.proofs.Common.{◌≡◌, ◌≢◌, ◌⊎◌, ℕ, ◌+◌, ◌-◌, ◌<◌, ◌≤◌, ℤ, pos, negsuc, ◌+ℤ◌, ◌<ℤ◌, ◌≤ℤ◌, int_le, int_lt, leb, Bool, true, false, not, ◌&&◌, List, [], ◌∷◌, ◌++◌, map, filter, refl, sym, ap, ◌∙◌, subst, arith, inl, inr, Contains}
use Rattle.std.proofs.lemmas.Int.{ints}
use Rattle.std.proofs.lemmas.Bool.{leb-true, le-leb, and_parts, and_from, or_cases, or_left, or_right, not-true, not_from_false, both_ways, false_from_ne_true}
use Rattle.std.specs.List.{AllByRecursion, list_any}
use Rattle.td_model.specs.declared.language.WindowDef.TheVariants.{Interval}
use Rattle.td_window.specs.Windows.{Window, is_within, IsStart, StartsRise, IsIntervalWindow, AreIntervalWindows}
use Rattle.td_trigger.specs.declared.range.Range.{Range}
use Rattle.td_trigger.specs.Ranges.{holds, in_order, joined, AreApart}
use Rattle.td_trigger.specs.Regions.{from_0, widened_interval}
use Rattle.td_trigger.specs.Splices.{is_touched, rows_in, is_inside, kept, made, put_all_by_start, IsChange}
use Rattle.td_trigger.proofs.Lists.{each_weaker, each_append, each_filter, filter_of_filter, filter_alike, In, in_filter, in_left, in_right, in_contains, contains_in}
use Rattle.td_trigger.proofs.Covering.{Within, within_any, within_region, regions_apart}
use Rattle.td_trigger.proofs.IntervalNumbers.{lies_in_widened}
use Rattle.td_trigger.proofs.Merging.{put_windows_each, put_all_rises, in_put_left, in_put_right}

-- ---- windows that rise
module _ {A : Type 0} where
  rise_filter : (p : Window A → Bool) (ws : List (Window A)) → StartsRise ws → StartsRise (filter p ws)
  rise_filter p [] h = tt
  rise_filter p (w ∷ ws) h = go (rise_filter p ws h.1) (p w) refl
    where
      go : StartsRise (filter p ws) → (t : Bool) → p w ≡ t → StartsRise (filter p (w ∷ ws))
      go rest true e = rw e (each_weaker (λ v. (w.start <ℤ v.start) × (p v ≡ true)) (λ v. w.start <ℤ v.start) (λ v h. h.0) (filter p ws) (each_filter (λ v. w.start <ℤ v.start) p ws h.0), rest)
      go rest false e = rw e rest

  rise_append : (us vs : List (Window A)) → StartsRise us → StartsRise vs → AllByRecursion (λ u. AllByRecursion (λ v. u.start <ℤ v.start) vs) us → StartsRise (us ++ vs)
  rise_append [] vs h k l = k
  rise_append (u ∷ us) vs h k l = (each_append (λ v. u.start <ℤ v.start) us vs h.0 l.0, rise_append us vs h.1 k l.1)

-- ---- integers from 0 on
from_0_rises : (k : ℤ) (t : ℕ) → k ≤ℤ pos t → from_0 k ≤ t
from_0_rises (pos n) t h = omega (arith, ints)
from_0_rises (negsuc n) t h = omega arith

before_end : (e : ℤ) (t : ℕ) → pos t <ℤ e → t ≤ from_0 e - 1
before_end (pos n) t h = let x : t < n = omega (arith, ints) in omega arith
before_end (negsuc n) t h = absurd (omega (arith, ints))

starts_later : (k e l : ℤ) (len : ℕ) → 0 < len → e ≡ k +ℤ pos len → from_0 e - 1 < from_0 l → k <ℤ l
starts_later (negsuc n) e (pos m) len s d h = omega (arith, ints)
starts_later (negsuc n) e (negsuc m) len s d h = absurd (omega arith)
starts_later (pos n) e (negsuc m) len s d h = absurd (omega arith)
starts_later (pos n) e (pos m) len s d h =
    let f : e ≡ pos (n + len) = d in
    let x : from_0 e ≡ n + len = ap from_0 f in
    omega (arith, ints, x)

within_parts : (len : ℕ) (k : ℤ) (t : ℕ) → is_within len k t ≡ true → (k ≤ℤ pos t) × (pos t <ℤ (k +ℤ pos len))
within_parts len k t e =
    let b = and_parts (int_le k (pos t)) (int_lt (pos t) (k +ℤ pos len)) e in
    let l = b.0 in
    let r = b.1 in
    (omega (arith, ints), omega (arith, ints))

-- ---- the law
module _ {A : Type 0} (time : A → ℕ) (len offset slide : ℕ) (s : 0 < slide) (n : 0 < len) where
  abbrev IsOne : List A → Window A → Type 0
  IsOne = IsIntervalWindow time len offset slide

  abbrev AreAll : List A → List (Window A) → Type 0
  AreAll = AreIntervalWindows time len offset slide

  abbrev inside : Window A → Range → Bool
  inside = is_inside (Interval len offset slide)

  -- a window of the same rows
  other_rows : (l m : List A) (w : Window A) → filter (λ row. is_within len w.start (time row)) l ≡ filter (λ row. is_within len w.start (time row)) m → IsOne l w → IsOne m w
  other_rows l m w e o = record {
    starts = o.starts;
    is = o.is ∙ ap (λ (rows : List A). record { start = w.start; end = w.start +ℤ pos len; rows = rows }) e;
    holds = o.holds;
  }

  ends_at : (l : List A) (w : Window A) → IsOne l w → w.end ≡ w.start +ℤ pos len
  ends_at l w o = ap (λ (v : Window A). v.end) o.is

  -- a touched timestamp of a window: the window lies in a touched range, widened
  touched_within : (k : ℤ) (t : ℕ) → IsStart offset slide k → is_within len k t ≡ true → (touched : List Range) → is_touched touched t ≡ true → Within (from_0 k) (from_0 (k +ℤ pos len) - 1) (map (widened_interval len offset slide) touched)
  touched_within k t starts e [] h = cc
  touched_within k t starts e (r ∷ touched) h = go (λ i. touched_within k t starts e touched i) (or_cases (holds r t) (is_touched touched t) h)
    where
      go : (is_touched touched t ≡ true → Within (from_0 k) (from_0 (k +ℤ pos len) - 1) (map (widened_interval len offset slide) touched)) → (holds r t ≡ true) ⊎ (is_touched touched t ≡ true) → Within (from_0 k) (from_0 (k +ℤ pos len) - 1) (map (widened_interval len offset slide) (r ∷ touched))
      go rest (inr i) = inr (rest i)
      go rest (inl i) =
          let b = and_parts (leb r.lo t) (leb t r.hi) i in
          let l = leb-true r.lo t b.0 in
          let u = leb-true t r.hi b.1 in
          let w = within_parts len k t e in
          let x = w.0 in
          let y = w.1 in
          inl (lies_in_widened len offset slide s n r k starts (omega (arith, ints)) (omega (arith, ints)))

  module _ (touched : List Range) (before after : List A) (change : IsChange time touched before after) where
    abbrev regions : List Range
    regions = joined 1 (in_order (map (widened_interval len offset slide) touched))

    abbrev is_new : Window A → Bool
    is_new w = list_any (inside w) regions

    -- a window that isn't wholly inside a region has the same rows before and after
    same_rows : (l : List A) (w : Window A) → IsOne l w → is_new w ≡ false → filter (λ row. is_within len w.start (time row)) before ≡ filter (λ row. is_within len w.start (time row)) after
    same_rows l w o out = filter_alike (λ row. is_within len w.start (time row)) (λ row. not (is_touched touched (time row))) none before after change.others_stay
      where
        none : (row : A) → is_within len w.start (time row) ≡ true → not (is_touched touched (time row)) ≡ true
        none row e = not_from_false (is_touched touched (time row)) (false_from_ne_true (is_touched touched (time row)) hit)
          where
            hit : is_touched touched (time row) ≡ true → ⊥
            hit h =
                let a = touched_within w.start (time row) o.starts e touched h in
                let b = within_region (from_0 w.start) (from_0 (w.start +ℤ pos len) - 1) 1 (map (widened_interval len offset slide) touched) a in
                let c = within_any (from_0 w.start) (from_0 (w.start +ℤ pos len) - 1) regions b in
                let P : ℤ → Type 0 = λ e'. list_any (λ r. leb r.lo (from_0 w.start) && leb (from_0 e' - 1) r.hi) regions ≡ true in
                both_ways (is_new w) out (subst P (sym (ends_at l w o)) c)

    -- a window wholly inside a region has its rows there
    rows_inside : (r : Range) (l : List A) (w : Window A) → IsOne l w → inside w r ≡ true → filter (λ row. is_within len w.start (time row)) (rows_in time r after) ≡ filter (λ row. is_within len w.start (time row)) after
    rows_inside r l w o i = filter_of_filter (λ row. is_within len w.start (time row)) (λ row. holds r (time row)) held after
      where
        held : (row : A) → is_within len w.start (time row) ≡ true → holds r (time row) ≡ true
        held row e =
            let b = and_parts (leb r.lo (from_0 w.start)) (leb (from_0 w.end - 1) r.hi) i in
            let low = leb-true r.lo (from_0 w.start) b.0 in
            let high = leb-true (from_0 w.end - 1) r.hi b.1 in
            let p = within_parts len w.start (time row) e in
            let x = from_0_rises w.start (time row) p.0 in
            let y : time row ≤ from_0 w.end - 1 = before_end w.end (time row) (subst (λ k. pos (time row) <ℤ k) (sym (ends_at l w o)) p.1) in
            and_from (leb r.lo (time row)) (leb (time row) r.hi) (le-leb r.lo (time row) (omega arith)) (le-leb (time row) r.hi (omega arith))

    module _ (windows_in : Range → List (Window A)) where
      abbrev AreRegions : List Range → Type 0
      AreRegions rs = AllByRecursion (λ r. AreAll (rows_in time r after) (windows_in r)) rs

      -- each window that is made is one of those after, and wholly inside a region
      made_each : (rs : List Range) → AreRegions rs → AllByRecursion (λ v. IsOne after v × (list_any (inside v) rs ≡ true)) (made inside rs windows_in)
      made_each [] h = tt
      made_each (r ∷ rs) h =
          each_append (λ v. IsOne after v × (list_any (inside v) (r ∷ rs) ≡ true)) (filter (λ w. inside w r) (windows_in r)) (made inside rs windows_in) (each_weaker (λ v. IsOne (rows_in time r after) v × (inside v r ≡ true)) (λ v. IsOne after v × (list_any (inside v) (r ∷ rs) ≡ true)) here (filter (λ w. inside w r) (windows_in r)) (each_filter (IsOne (rows_in time r after)) (λ w. inside w r) (windows_in r) h.0.each)) (each_weaker (λ v. IsOne after v × (list_any (inside v) rs ≡ true)) (λ v. IsOne after v × (list_any (inside v) (r ∷ rs) ≡ true)) (λ v p. (p.0, or_right (inside v r) (list_any (inside v) rs) p.1)) (made inside rs windows_in) (made_each rs h.1))
        where
          here : (v : Window A) → IsOne (rows_in time r after) v × (inside v r ≡ true) → IsOne after v × (list_any (inside v) (r ∷ rs) ≡ true)
          here v p = (other_rows (rows_in time r after) after v (rows_inside r (rows_in time r after) v p.0 p.1) p.0, or_left (inside v r) (list_any (inside v) rs) p.1)

      made_later : (m : ℕ) (rs : List Range) → AllByRecursion (λ r. m < r.lo) rs → AllByRecursion (λ v. m < from_0 v.start) (made inside rs windows_in)
      made_later m [] h = tt
      made_later m (r ∷ rs) h =
          each_append (λ v. m < from_0 v.start) (filter (λ w. inside w r) (windows_in r)) (made inside rs windows_in) (each_weaker (λ v. Unit {0} × (inside v r ≡ true)) (λ v. m < from_0 v.start) (λ v p. let b = and_parts (leb r.lo (from_0 v.start)) (leb (from_0 v.end - 1) r.hi) p.1 in let c = leb-true r.lo (from_0 v.start) b.0 in let d = h.0 in omega arith) (filter (λ w. inside w r) (windows_in r)) (each_filter (λ v. Unit {0}) (λ w. inside w r) (windows_in r) (every (windows_in r)))) (made_later m rs h.1)
        where
          every : (ws : List (Window A)) → AllByRecursion (λ v. Unit {0}) ws
          every [] = tt
          every (w ∷ ws) = (tt, every ws)

      made_rises : (rs : List Range) → AreApart 1 rs → AreRegions rs → StartsRise (made inside rs windows_in)
      made_rises [] a h = tt
      made_rises (r ∷ rs) a h =
          rise_append (filter (λ w. inside w r) (windows_in r)) (made inside rs windows_in) (rise_filter (λ w. inside w r) (windows_in r) h.0.by_start) (made_rises rs a.1 h.1) (each_weaker (λ v. IsOne (rows_in time r after) v × (inside v r ≡ true)) (λ u. AllByRecursion (λ v. u.start <ℤ v.start) (made inside rs windows_in)) below (filter (λ w. inside w r) (windows_in r)) (each_filter (IsOne (rows_in time r after)) (λ w. inside w r) (windows_in r) h.0.each))
        where
          later : AllByRecursion (λ v. r.hi < from_0 v.start) (made inside rs windows_in)
          later = made_later r.hi rs (each_weaker (λ q. r.hi + 1 < q.lo) (λ q. r.hi < q.lo) (λ q h. omega arith) rs a.0)

          below : (u : Window A) → IsOne (rows_in time r after) u × (inside u r ≡ true) → AllByRecursion (λ v. u.start <ℤ v.start) (made inside rs windows_in)
          below u p =
              let b = and_parts (leb r.lo (from_0 u.start)) (leb (from_0 u.end - 1) r.hi) p.1 in
              let c = leb-true (from_0 u.end - 1) r.hi b.1 in
              each_weaker (λ v. r.hi < from_0 v.start) (λ v. u.start <ℤ v.start) (λ v d. starts_later u.start u.end v.start len n (ends_at (rows_in time r after) u p.0) (omega arith)) (made inside rs windows_in) later

      in_made : (w : Window A) (rs : List Range) → AreRegions rs → IsOne after w → list_any (inside w) rs ≡ true → In w (made inside rs windows_in)
      in_made w [] h o i = cc
      in_made w (r ∷ rs) h o i = go (λ k. in_made w rs h.1 o k) (inside w r) refl
        where
          here : inside w r ≡ true → In w (filter (λ v. inside v r) (windows_in r))
          here t = in_filter (λ v. inside v r) w (windows_in r) t (contains_in w (windows_in r) (h.0.all w (other_rows after (rows_in time r after) w (sym (rows_inside r after w o t)) o)))

          go : (list_any (inside w) rs ≡ true → In w (made inside rs windows_in)) → (t : Bool) → inside w r ≡ t → In w (made inside (r ∷ rs) windows_in)
          go rest true e = in_left w (filter (λ v. inside v r) (windows_in r)) (made inside rs windows_in) (here e)
          go rest false e = in_right w (filter (λ v. inside v r) (windows_in r)) (made inside rs windows_in) (rest (rw e at i))

      pub intervals_splice : (old : List (Window A)) → AreAll before old → AreRegions regions → AreAll after (put_all_by_start (kept inside regions old) (made inside regions windows_in))
      intervals_splice old are h = record {
        each = put_windows_each (IsOne after) (kept inside regions old) (made inside regions windows_in) (each_weaker (λ w. IsOne before w × (not (is_new w) ≡ true)) (IsOne after) stays (kept inside regions old) keeps) (each_weaker (λ v. IsOne after v × (is_new v ≡ true)) (IsOne after) (λ v p. p.0) (made inside regions windows_in) makes);
        all = every;
        by_start = put_all_rises (kept inside regions old) (made inside regions windows_in) (rise_filter (λ w. not (is_new w)) old are.by_start) (made_rises regions (regions_apart 1 (map (widened_interval len offset slide) touched)) h) (each_weaker (λ w. IsOne before w × (not (is_new w) ≡ true)) (λ w. AllByRecursion (λ v. w.start ≢ v.start) (made inside regions windows_in)) differ (kept inside regions old) keeps);
      }
        where
          keeps : AllByRecursion (λ w. IsOne before w × (not (is_new w) ≡ true)) (kept inside regions old)
          keeps = each_filter (IsOne before) (λ w. not (is_new w)) old are.each

          makes : AllByRecursion (λ v. IsOne after v × (is_new v ≡ true)) (made inside regions windows_in)
          makes = made_each regions h

          stays : (w : Window A) → IsOne before w × (not (is_new w) ≡ true) → IsOne after w
          stays w p = other_rows before after w (same_rows before w p.0 (not-true (is_new w) p.1)) p.0

          differ : (w : Window A) → IsOne before w × (not (is_new w) ≡ true) → AllByRecursion (λ v. w.start ≢ v.start) (made inside regions windows_in)
          differ w p = each_weaker (λ v. IsOne after v × (is_new v ≡ true)) (λ v. w.start ≢ v.start) other (made inside regions windows_in) makes
            where
              other : (v : Window A) → IsOne after v × (is_new v ≡ true) → w.start ≢ v.start
              other v q e =
                  let ends : v.end ≡ w.end = ends_at after v q.0 ∙ ap (λ k. k +ℤ pos len) (sym e) ∙ sym (ends_at before w p.0) in
                  let P : ℤ → ℤ → Type 0 = λ k l. list_any (λ r. leb r.lo (from_0 k) && leb (from_0 l - 1) r.hi) regions ≡ true in
                  both_ways (is_new w) (not-true (is_new w) p.1) (subst (λ k. P k w.end) (sym e) (subst (P v.start) ends q.1))

          every : (w : Window A) → IsOne after w → Contains (put_all_by_start (kept inside regions old) (made inside regions windows_in)) w
          every w o = in_contains w (put_all_by_start (kept inside regions old) (made inside regions windows_in)) (go (is_new w) refl)
            where
              go : (t : Bool) → is_new w ≡ t → In w (put_all_by_start (kept inside regions old) (made inside regions windows_in))
              go true e = in_put_right w (kept inside regions old) (made inside regions windows_in) (in_made w regions h o e)
              go false e = in_put_left w (kept inside regions old) (made inside regions windows_in) (in_filter (λ v. not (is_new v)) w old (not_from_false (is_new w) e) (contains_in w old (are.all w (other_rows after before w (sym (same_rows after w o e)) o))))
