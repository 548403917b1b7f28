-- The ranges of timestamps of windows that are cut from rows in order.
use Rattle.std.proofs.Common.{◌≡◌, ◌⊎◌, ℕ, ◌+◌, ◌<◌, ◌≤◌, Bool, true, false, not, cond, List, [], ◌∷◌, ◌++◌, map, filter, refl, sym, ap, ◌∙◌, subst, arith, inl, inr}
use Rattle.std.proofs.lemmas.Bool.{or_cases, not-true, not_from_false, false_from_ne_true, both_ways}
use Rattle.std.specs.List.{AllByRecursion}
use Rattle.td_window.specs.Windows.{cut, led_by, last_of}
use Rattle.td_trigger.specs.declared.range.Range.{Range}
use Rattle.td_trigger.specs.Ranges.{hull, holds, taking_in, in_order, joined, IsRange, AreApart}
use Rattle.td_trigger.specs.Splices.{is_touched, untouched}
use Rattle.td_trigger.proofs.Lists.{each_weaker, each_map, each_both, each_passing, filter_alike, filter_of_filter_on, In, each_in_itself}
use Rattle.td_trigger.proofs.Covering.{Within, within_any, within_region}
use Rattle.td_trigger.proofs.CutSplice.{DontFall, each_group, head_of_cut}

-- ---- ranges that lie apart
-- a timestamp outside a range lies more than so far from it
abbrev pub SpacedAt : ℕ → ℕ → Range → Type 0
SpacedAt gap t r = (t < r.lo → t + gap < r.lo) × (r.hi < t → r.hi + gap < t)

pub spaced_both : (gap t : ℕ) (r s : Range) → SpacedAt gap t r → SpacedAt gap t s → SpacedAt gap t (hull r s)
spaced_both gap t r s h k = (
  λ l. let a = h.0 (omega arith) in let b = k.0 (omega arith) in omega arith,
  λ l. let a = h.1 (omega arith) in let b = k.1 (omega arith) in omega arith,
)

within_above : (m a b : ℕ) (rs : List Range) → AllByRecursion (λ r. m < r.lo) rs → Within a b rs → m < a
within_above m a b [] h w = absurd w
within_above m a b (r ∷ rs) h (inl w) = let l = h.0 in let k = w.0 in omega arith
within_above m a b (r ∷ rs) h (inr w) = within_above m a b rs h.1 w

-- a timestamp of one of such ranges
pub spaced_within : (gap t : ℕ) (rs : List Range) → AreApart gap rs → AllByRecursion IsRange rs → Within t t rs → AllByRecursion (SpacedAt gap t) rs
spaced_within gap t [] a o w = absurd w
spaced_within gap t (r ∷ rs) a o (inl w) =
    let l = w.0 in
    let u = w.1 in
    ((λ k. absurd (omega arith), λ k. absurd (omega arith)), each_weaker (λ s. (r.hi + gap < s.lo) × IsRange s) (SpacedAt gap t) (λ s p. let x = p.0 in let y = p.1 in (λ k. omega arith, λ k. absurd (omega arith))) rs (each_both (λ s. r.hi + gap < s.lo) IsRange rs a.0 o.1))
spaced_within gap t (r ∷ rs) a o (inr w) =
    let x = within_above (r.hi + gap) t t rs a.0 w in
    let y = o.0 in
    ((λ k. absurd (omega arith), λ k. omega arith), spaced_within gap t rs a.1 o.1 w)

pub apart_weaker : (gap : ℕ) (rs : List Range) → AreApart gap rs → AreApart 0 rs
apart_weaker gap [] h = tt
apart_weaker gap (r ∷ rs) h = (each_weaker (λ s. r.hi + gap < s.lo) (λ s. r.hi + 0 < s.lo) (λ s k. omega arith) rs h.0, apart_weaker gap rs h.1)

-- ---- a range that takes in others
pub taking_in_reaches : (r : Range) (rs : List Range) → ((taking_in r rs).lo ≤ r.lo) × (r.hi ≤ (taking_in r rs).hi)
taking_in_reaches r [] = (omega arith, omega arith)
taking_in_reaches r (s ∷ rs) = let h = taking_in_reaches r rs in let a = h.0 in let b = h.1 in (omega arith, omega arith)

pub taking_in_within : (a b : ℕ) (r : Range) (rs : List Range) → Within a b rs → ((taking_in r rs).lo ≤ a) × (b ≤ (taking_in r rs).hi)
taking_in_within a b r [] w = absurd w
taking_in_within a b r (s ∷ rs) (inl w) = let x = w.0 in let y = w.1 in (omega arith, omega arith)
taking_in_within a b r (s ∷ rs) (inr w) = let h = taking_in_within a b r rs w in let x = h.0 in let y = h.1 in (omega arith, omega arith)

pub taking_in_each : (P : Range → Type 0) → ((r s : Range) → P r → P s → P (hull r s)) → (r : Range) (rs : List Range) → P r → AllByRecursion P rs → P (taking_in r rs)
taking_in_each P both r [] h k = h
taking_in_each P both r (s ∷ rs) h k = both s (taking_in r rs) k.0 (taking_in_each P both r rs h k.1)

-- ---- touched timestamps lie in the regions
pub touched_in_region : (gap t : ℕ) (f : Range → Range) → ((r : Range) → holds r t ≡ true → ((f r).lo ≤ t) × (t ≤ (f r).hi)) → (touched : List Range) → is_touched touched t ≡ true → Within t t (joined gap (in_order (map f touched)))
touched_in_region gap t f wide touched h = within_region t t gap (map f touched) (go touched h)
  where
    go : (rs : List Range) → is_touched rs t ≡ true → Within t t (map f rs)
    go [] k = cc
    go (r ∷ rs) k = next (λ i. go rs i) (or_cases (holds r t) (is_touched rs t) k)
      where
        next : (is_touched rs t ≡ true → Within t t (map f rs)) → (holds r t ≡ true) ⊎ (is_touched rs t ≡ true) → Within t t (map f (r ∷ rs))
        next rest (inl i) = inl (wide r i)
        next rest (inr i) = inr (rest i)

-- rows outside the regions are the same before and after
pub same_outside : {A : Type 0} (time : A → ℕ) (touched regions : List Range) → ((t : ℕ) → is_touched touched t ≡ true → Within t t regions) → (before after : List A) → untouched time touched before ≡ untouched time touched after → untouched time regions before ≡ untouched time regions after
same_outside {A} time touched regions covered before after e = filter_alike (λ x. not (is_touched regions (time x))) (λ x. not (is_touched touched (time x))) out before after e
  where
    out : (x : A) → not (is_touched regions (time x)) ≡ true → not (is_touched touched (time x)) ≡ true
    out x h = not_from_false (is_touched touched (time x)) (false_from_ne_true (is_touched touched (time x)) (λ k. both_ways (is_touched regions (time x)) (not-true (is_touched regions (time x)) h) (within_any (time x) (time x) regions (covered (time x) k))))

-- ---- the ranges of windows cut from rows in order
module _ {A : Type 0} (time : A → ℕ) (apart : A → A → Bool) (R : A → A → Type 0) (gap : ℕ) (rises : (x y : A) → R x y → time x ≤ time y) (spaced : (x y : A) → R x y → apart x y ≡ true → time x + gap < time y) where
  abbrev pub Ordered : List A → Type 0
  Ordered [] = Unit {0}
  Ordered (x ∷ rows) = AllByRecursion (R x) rows × Ordered rows

  abbrev pub range_of : A × List A → Range
  range_of g = record { lo = time g.0; hi = time (last_of g.0 g.1) }

  abbrev pub ranges : List A → List Range
  ranges rows = map range_of (cut apart rows)

  pub ordered_dont_fall : (rows : List A) → Ordered rows → DontFall time apart rows
  ordered_dont_fall [] h = tt
  ordered_dont_fall (x ∷ rows) h = (each_weaker (R x) (λ y. time x ≤ time y) (rises x) rows h.0, ordered_dont_fall rows h.1)

  pub ranges_are : (rows : List A) → Ordered rows → AllByRecursion IsRange (ranges rows)
  ranges_are [] h = tt
  ranges_are (x ∷ rows) h = go (cut apart rows) (each_group time apart (R x) rows h.0) (ranges_are rows h.1)
    where
      go : (groups : List (A × List A)) → AllByRecursion (λ (g : A × List A). R x g.0 × R x (last_of g.0 g.1)) groups → AllByRecursion IsRange (map range_of groups) → AllByRecursion IsRange (map range_of (led_by apart x groups))
      go [] k i = (omega arith, tt)
      go ((y, ys) ∷ groups) k i =
          let l = rises x (last_of y ys) k.0.1 in
          elim (apart x y) as (λ t. AllByRecursion IsRange (map range_of (cond t ((x, []) ∷ (y, ys) ∷ groups) ((x, y ∷ ys) ∷ groups)))) [ true ↦ (omega arith, i) | false ↦ (l, i.1) ]

  pub ranges_apart : (rows : List A) → Ordered rows → AreApart gap (ranges rows)
  ranges_apart [] h = tt
  ranges_apart (x ∷ rows) h = go (cut apart rows) (each_group time apart (R x) rows h.0) (ranges_are rows h.1) (ranges_apart rows h.1)
    where
      go : (groups : List (A × List A)) → AllByRecursion (λ (g : A × List A). R x g.0 × R x (last_of g.0 g.1)) groups → AllByRecursion IsRange (map range_of groups) → AreApart gap (map range_of groups) → AreApart gap (map range_of (led_by apart x groups))
      go [] k i a = (tt, tt)
      go ((y, ys) ∷ groups) k i a = next (apart x y) refl
        where
          next : (t : Bool) → apart x y ≡ t → AreApart gap (map range_of (led_by apart x ((y, ys) ∷ groups)))
          next true e =
              let l = spaced x y k.0.0 e in
              let m = i.0 in
              rw e ((l, each_weaker (λ s. time (last_of y ys) + gap < s.lo) (λ s. time x + gap < s.lo) (λ s n. omega arith) (map range_of groups) a.0), a)
          next false e = rw e a

  -- what the windows of the rows after a row take in, those with it do
  lift : (a b : ℕ) (x : A) (rows : List A) → AllByRecursion (R x) rows → Within a b (ranges rows) → Within a b (ranges (x ∷ rows))
  lift a b x rows h w = go (cut apart rows) (each_group time apart (R x) rows h) w
    where
      go : (groups : List (A × List A)) → AllByRecursion (λ (g : A × List A). R x g.0 × R x (last_of g.0 g.1)) groups → Within a b (map range_of groups) → Within a b (map range_of (led_by apart x groups))
      go [] k w = absurd w
      go ((y, ys) ∷ groups) k w =
          let l = rises x y k.0.0 in
          elim (apart x y) as (λ t. Within a b (map range_of (cond t ((x, []) ∷ (y, ys) ∷ groups) ((x, y ∷ ys) ∷ groups)))) [ true ↦ inr w | false ↦ wider l w ]
        where
          wider : time x ≤ time y → Within a b (range_of (y, ys) ∷ map range_of groups) → Within a b (range_of (x, y ∷ ys) ∷ map range_of groups)
          wider l (inl p) = let q = p.0 in inl (omega arith, p.1)
          wider l (inr p) = inr p

  -- each row lies in a window
  pub rows_in_ranges : (rows : List A) → Ordered rows → AllByRecursion (λ x. Within (time x) (time x) (ranges rows)) rows
  rows_in_ranges [] h = tt
  rows_in_ranges (x ∷ rows) h = (itself (cut apart rows) (each_group time apart (R x) rows h.0), each_weaker (λ y. Within (time y) (time y) (ranges rows)) (λ y. Within (time y) (time y) (ranges (x ∷ rows))) (λ y w. lift (time y) (time y) x rows h.0 w) rows (rows_in_ranges rows h.1))
    where
      itself : (groups : List (A × List A)) → AllByRecursion (λ (g : A × List A). R x g.0 × R x (last_of g.0 g.1)) groups → Within (time x) (time x) (map range_of (led_by apart x groups))
      itself [] k = inl (omega arith, omega arith)
      itself ((y, ys) ∷ groups) k = elim (apart x y) as (λ t. Within (time x) (time x) (map range_of (cond t ((x, []) ∷ (y, ys) ∷ groups) ((x, y ∷ ys) ∷ groups)))) [ true ↦ inl (omega arith, omega arith) | false ↦ inl (omega arith, rises x (last_of y ys) k.0.1) ]

  -- two neighbours that aren't apart lie in one window
  pub neighbours_in_range : (l : List A) (x y : A) (m : List A) → Ordered (l ++ x ∷ y ∷ m) → apart x y ≡ false → Within (time x) (time y) (ranges (l ++ x ∷ y ∷ m))
  neighbours_in_range [] x y m h e =
      let c = head_of_cut time apart y m in
      let i = ranges_are (y ∷ m) h.1 in
      let j = rw c.2 at i in
      rw c.2 (rw e (inl (omega arith, j.0)))
  neighbours_in_range (z ∷ l) x y m h e = lift (time x) (time y) z (l ++ x ∷ y ∷ m) h.0 (neighbours_in_range l x y m h.1 e)

  -- rows of a list in order
  pub filter_ordered : (q : A → Bool) (rows : List A) → Ordered rows → Ordered (filter q rows)
  filter_ordered q [] h = tt
  filter_ordered q (x ∷ rows) h = go (filter_ordered q rows h.1) (q x) refl
    where
      go : Ordered (filter q rows) → (t : Bool) → q x ≡ t → Ordered (filter q (x ∷ rows))
      go rest true e = rw e (each_passing (R x) q rows h.0, rest)
      go rest false e = rw e rest

  -- a row of this timestamp
  abbrev pub HasRowAt : List A → ℕ → Type 0
  HasRowAt rows t = (z : A) × In z rows × (time z ≡ t)

  -- at both ends of a window there are rows
  pub rows_at_ends : (rows : List A) → AllByRecursion (λ (u : Range). HasRowAt rows u.lo × HasRowAt rows u.hi) (ranges rows)
  rows_at_ends rows =
      each_map range_of (λ (u : Range). HasRowAt rows u.lo × HasRowAt rows u.hi) (cut apart rows) (each_weaker (λ (g : A × List A). In g.0 rows × In (last_of g.0 g.1) rows) (λ g. HasRowAt rows (time g.0) × HasRowAt rows (time (last_of g.0 g.1))) (λ g p. ((g.0, p.0, refl), (last_of g.0 g.1, p.1, refl))) (cut apart rows) (each_group time apart (λ z. In z rows) rows (each_in_itself rows)))

  -- neighbours of what passes a test are neighbours, where all between them pass it
  pub neighbours_among : (q : A → Bool) (x y : A) → q x ≡ true → q y ≡ true → (rows : List A) → Ordered rows → AllByRecursion (λ z. time x ≤ time z → time z ≤ time y → q z ≡ true) rows → (l m : List A) → filter q rows ≡ l ++ x ∷ y ∷ m → (k n : List A) × (rows ≡ k ++ x ∷ y ∷ n)
  neighbours_among q x y qx qy [] up h [] m e = absurd (cc)
  neighbours_among q x y qx qy [] up h (w ∷ l) m e = absurd (cc)
  neighbours_among q x y qx qy (z ∷ rows) up h l m e = go l e (λ l' d. neighbours_among q x y qx qy rows up.1 h.1 l' m d) (q z) refl
    where
      -- the row after x
      next : (ss : List A) → filter q ss ≡ y ∷ m → AllByRecursion (λ u. time x ≤ time u) ss → Ordered ss → AllByRecursion (λ u. time x ≤ time u → time u ≤ time y → q u ≡ true) ss → (n : List A) × (ss ≡ y ∷ n)
      next [] d a o k = absurd (cc)
      next (s ∷ ss) d a o k = at (q s) refl
        where
          at : (t : Bool) → q s ≡ t → (n : List A) × (s ∷ ss ≡ y ∷ n)
          at true f = let g = rw f at d in let i : s ≡ y = cc in (ss, ap (λ (v : A). v ∷ ss) i)
          at false f =
              let g : filter q ss ≡ y ∷ m = rw f at d in
              let j = subst (AllByRecursion (R s)) g (each_passing (R s) q ss o.0) in
              absurd (both_ways (q s) f (k.0 a.0 (rises s y j.0)))

      go : (l : List A) → filter q (z ∷ rows) ≡ l ++ x ∷ y ∷ m → ((l' : List A) → filter q rows ≡ l' ++ x ∷ y ∷ m → (k n : List A) × (rows ≡ k ++ x ∷ y ∷ n)) → (t : Bool) → q z ≡ t → (k n : List A) × (z ∷ rows ≡ k ++ x ∷ y ∷ n)
      go [] e rest true f =
          let g = rw f at e in
          let i : z ≡ x = cc in
          let j : filter q rows ≡ y ∷ m = cc in
          let r = next rows j (each_weaker (R z) (λ u. time x ≤ time u) (λ u c. subst (λ v. time v ≤ time u) i (rises z u c)) rows up.0) up.1 h.1 in
          ([], r.0, ap (λ (v : A). v ∷ rows) i ∙ ap (λ (v : List A). x ∷ v) r.1)
      go (w ∷ l) e rest true f =
          let g = rw f at e in
          let j : filter q rows ≡ l ++ x ∷ y ∷ m = cc in
          let r = rest l j in
          (z ∷ r.0, r.1, ap (λ (v : List A). z ∷ v) r.2)
      go l e rest false f = let r = rest l (rw f at e) in (z ∷ r.0, r.1, ap (λ (v : List A). z ∷ v) r.2)

-- rows outside the regions are the same before and after, where touched timestamps of these rows lie in the regions
pub same_outside_of : {A : Type 0} (time : A → ℕ) (P : ℕ → Type 0) (touched regions : List Range) → ((t : ℕ) → P t → is_touched touched t ≡ true → Within t t regions) → (before after : List A) → AllByRecursion (λ x. P (time x)) before → AllByRecursion (λ x. P (time x)) after → untouched time touched before ≡ untouched time touched after → untouched time regions before ≡ untouched time regions after
same_outside_of {A} time P touched regions covered before after b a e = sym (alike before b) ∙ ap (filter (λ x. not (is_touched regions (time x)))) e ∙ alike after a
  where
    out : (x : A) → P (time x) → not (is_touched regions (time x)) ≡ true → not (is_touched touched (time x)) ≡ true
    out x i h = not_from_false (is_touched touched (time x)) (false_from_ne_true (is_touched touched (time x)) (λ k. both_ways (is_touched regions (time x)) (not-true (is_touched regions (time x)) h) (within_any (time x) (time x) regions (covered (time x) i k))))

    alike : (rows : List A) → AllByRecursion (λ x. P (time x)) rows → filter (λ x. not (is_touched regions (time x))) (untouched time touched rows) ≡ untouched time regions rows
    alike rows i = filter_of_filter_on (λ x. P (time x)) (λ x. not (is_touched regions (time x))) (λ x. not (is_touched touched (time x))) out rows i
