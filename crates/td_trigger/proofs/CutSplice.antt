-- Windows cut from rows in order: how they divide where rows divide, and how they are spliced.
use Rattle.std.proofs.Common.{◌≡◌, ◌⊎◌, ℕ, ◌+◌, ◌<◌, ◌≤◌, pos, ◌<ℤ◌, ◌≤ℤ◌, leb, ltb, Bool, true, false, not, ◌&&◌, cond, List, [], ◌∷◌, ◌++◌, map, filter, refl, sym, ap, ◌∙◌, subst, arith, inl, inr}
use Rattle.std.proofs.lemmas.Int.{ints}
use Rattle.std.proofs.lemmas.Bool.{leb-true, le-leb, lt-leb, lt-ltb, le-ltb, ltb-true, and_parts, and_from, and_left, and_right, or_from, cases_lt, not_from_false}
use Rattle.std.proofs.lemmas.List.{append-nil, append_assoc, map-append}
use Rattle.std.proofs.lemmas.List.Elements.{filter-append}
use Rattle.std.specs.List.{AllByRecursion, list_any}
use Rattle.td_window.specs.Windows.{Window, cut, led_by, last_of, window_of_group}
use Rattle.td_trigger.specs.declared.range.Range.{Range}
use Rattle.td_trigger.specs.Ranges.{holds, IsRange, AreApart}
use Rattle.td_trigger.specs.Regions.{from_0}
use Rattle.td_trigger.specs.Splices.{is_touched, untouched, rows_in, kept, made, put_all_by_start}
use Rattle.td_trigger.proofs.Lists.{each_weaker, each_append, each_filter, each_map, each_true, filter_every, filter_none, filter_of_filter, filter_alike, filter_twice, filter_agrees}
use Rattle.td_trigger.proofs.Merging.{StartsDontFall, put_alone, put_all_front, put_all-append, put_all_past, put_windows_each}

and_true : (b : Bool) → b ≡ (b && true)
and_true true = refl
and_true false = refl

module _ {A : Type 0} (time : A → ℕ) (apart : A → A → Bool) where
  -- ---- rows in order
  abbrev pub DontFall : List A → Type 0
  DontFall [] = Unit {0}
  DontFall (x ∷ rows) = AllByRecursion (λ y. time x ≤ time y) rows × DontFall rows

  abbrev pub below : ℕ → List A → List A
  below p rows = filter (λ x. ltb (time x) p) rows

  abbrev pub from : ℕ → List A → List A
  from p rows = filter (λ x. leb p (time x)) rows

  pub filter_in_order : (q : A → Bool) (rows : List A) → DontFall rows → DontFall (filter q rows)
  filter_in_order q [] h = tt
  filter_in_order q (x ∷ rows) h = go (filter_in_order q rows h.1) (q x) refl
    where
      go : DontFall (filter q rows) → (t : Bool) → q x ≡ t → DontFall (filter q (x ∷ rows))
      go rest true e = rw e (each_weaker (λ y. (time x ≤ time y) × (q y ≡ true)) (λ y. time x ≤ time y) (λ y p. p.0) (filter q rows) (each_filter (λ y. time x ≤ time y) q rows h.0), rest)
      go rest false e = rw e rest

  pub divided : (p : ℕ) (rows : List A) → DontFall rows → rows ≡ below p rows ++ from p rows
  divided p [] h = refl
  divided p (x ∷ rows) h = go (divided p rows h.1) (cases_lt (time x) p)
    where
      go : rows ≡ below p rows ++ from p rows → (time x < p) ⊎ (p ≤ time x) → x ∷ rows ≡ below p (x ∷ rows) ++ from p (x ∷ rows)
      go rest (inl l) =
          let a : ltb (time x) p ≡ true = lt-ltb (time x) p l in
          let b : leb p (time x) ≡ false = lt-leb p (time x) l in
          rw (a, b) (ap (λ (k : List A). x ∷ k) rest)
      go rest (inr l) =
          let a : ltb (time x) p ≡ false = le-ltb (time x) p l in
          let b : leb p (time x) ≡ true = le-leb p (time x) l in
          let none : below p rows ≡ [] = filter_none (λ y. ltb (time y) p) rows (each_weaker (λ y. time x ≤ time y) (λ y. ltb (time y) p ≡ false) (λ y m. le-ltb (time y) p (omega arith)) rows h.0) in
          let all : from p rows ≡ rows = filter_every (λ y. leb p (time y)) rows (each_weaker (λ y. time x ≤ time y) (λ y. leb p (time y) ≡ true) (λ y m. le-leb p (time y) (omega arith)) rows h.0) in
          rw (a, b, none, all) refl

  -- ---- a cut between two lists
  -- the last of one and the first of the other, if there are both, are apart
  abbrev pub Joint : List A → List A → Type 0
  Joint [] rest = Unit {0}
  Joint (x ∷ xs) [] = Unit {0}
  Joint (x ∷ xs) (y ∷ ys) = apart (last_of x xs) y ≡ true

  pub head_of_cut : (y : A) (ys : List A) → (zs : List A) × (more : List (A × List A)) × (cut apart (y ∷ ys) ≡ (y, zs) ∷ more)
  head_of_cut y ys = go (cut apart ys)
    where
      go : (groups : List (A × List A)) → (zs : List A) × (more : List (A × List A)) × (led_by apart y groups ≡ (y, zs) ∷ more)
      go [] = ([], [], refl)
      go ((z, zs) ∷ groups) = elim (apart y z) as (λ t. (us : List A) × (more : List (A × List A)) × (cond t ((y, []) ∷ (z, zs) ∷ groups) ((y, z ∷ zs) ∷ groups) ≡ (y, us) ∷ more)) [ true ↦ ([], (z, zs) ∷ groups, refl) | false ↦ (z ∷ zs, groups, refl) ]

  led_by-append : (x y : A) (zs : List A) (groups more : List (A × List A)) → led_by apart x (((y, zs) ∷ groups) ++ more) ≡ led_by apart x ((y, zs) ∷ groups) ++ more
  led_by-append x y zs groups more = elim (apart x y) as (λ t. cond t ((x, []) ∷ (y, zs) ∷ (groups ++ more)) ((x, y ∷ zs) ∷ (groups ++ more)) ≡ cond t ((x, []) ∷ (y, zs) ∷ groups) ((x, y ∷ zs) ∷ groups) ++ more) [ true ↦ refl | false ↦ refl ]

  pub cut_divides : (l r : List A) → Joint l r → cut apart (l ++ r) ≡ cut apart l ++ cut apart r
  cut_divides [] r j = refl
  cut_divides (x ∷ []) [] j = refl
  cut_divides (x ∷ []) (y ∷ ys) j =
      let h = head_of_cut y ys in
      let t : apart x y ≡ true = j in
      rw h.2 (rw t refl)
  cut_divides (x ∷ z ∷ l) r j =
      let rest : cut apart ((z ∷ l) ++ r) ≡ cut apart (z ∷ l) ++ cut apart r = cut_divides (z ∷ l) r (again r j) in
      let h = head_of_cut z l in
      ap (led_by apart x) (rest ∙ ap (λ (g : List (A × List A)). g ++ cut apart r) h.2) ∙ led_by-append x z h.0 h.1 (cut apart r) ∙ ap (λ (g : List (A × List A)). led_by apart x g ++ cut apart r) (sym h.2)
    where
      again : (r : List A) → Joint (x ∷ z ∷ l) r → Joint (z ∷ l) r
      again [] j = tt
      again (y ∷ ys) j = j

  -- ---- what is true of each row is true of the ends of each group
  abbrev ends_of : A × List A → A
  ends_of g = last_of g.0 g.1

  pub each_group : (P : A → Type 0) (rows : List A) → AllByRecursion P rows → AllByRecursion (λ (g : A × List A). P g.0 × P (last_of g.0 g.1)) (cut apart rows)
  each_group P [] h = tt
  each_group P (x ∷ rows) h = go (cut apart rows) (each_group P rows h.1)
    where
      go : (groups : List (A × List A)) → AllByRecursion (λ (g : A × List A). P g.0 × P (last_of g.0 g.1)) groups → AllByRecursion (λ (g : A × List A). P g.0 × P (last_of g.0 g.1)) (led_by apart x groups)
      go [] k = ((h.0, h.0), tt)
      go ((y, ys) ∷ groups) k = elim (apart x y) as (λ t. AllByRecursion (λ (g : A × List A). P g.0 × P (last_of g.0 g.1)) (cond t ((x, []) ∷ (y, ys) ∷ groups) ((x, y ∷ ys) ∷ groups))) [ true ↦ ((h.0, h.0), k) | false ↦ ((h.0, k.0.1), k.1) ]

  abbrev pub windows : List A → List (Window A)
  windows rows = map (window_of_group time) (cut apart rows)

  -- the windows of rows between two timestamps
  pub each_window : (P : Window A → Type 0) (Q : A → Type 0) → ((g : A × List A) → Q g.0 → Q (last_of g.0 g.1) → P (window_of_group time g)) → (rows : List A) → AllByRecursion Q rows → AllByRecursion P (windows rows)
  each_window P Q f rows h = each_map (window_of_group time) P (cut apart rows) (each_weaker (λ (g : A × List A). Q g.0 × Q (last_of g.0 g.1)) (λ g. P (window_of_group time g)) (λ g p. f g p.0 p.1) (cut apart rows) (each_group Q rows h))

  pub window_starts : (rows : List A) → DontFall rows → StartsDontFall (windows rows)
  window_starts [] h = tt
  window_starts (x ∷ rows) h = go (cut apart rows) (each_group (λ y. time x ≤ time y) rows h.0) (window_starts rows h.1)
    where
      later : (groups : List (A × List A)) → AllByRecursion (λ (g : A × List A). (time x ≤ time g.0) × (time x ≤ time (last_of g.0 g.1))) groups → AllByRecursion (λ (v : Window A). pos (time x) ≤ℤ v.start) (map (window_of_group time) groups)
      later groups k = each_map (window_of_group time) (λ (v : Window A). pos (time x) ≤ℤ v.start) groups (each_weaker (λ (g : A × List A). (time x ≤ time g.0) × (time x ≤ time (last_of g.0 g.1))) (λ g. pos (time x) ≤ℤ pos (time g.0)) (λ g p. let l = p.0 in omega (arith, ints)) groups k)

      go : (groups : List (A × List A)) → AllByRecursion (λ (g : A × List A). (time x ≤ time g.0) × (time x ≤ time (last_of g.0 g.1))) groups → StartsDontFall (map (window_of_group time) groups) → StartsDontFall (map (window_of_group time) (led_by apart x groups))
      go [] k u = (tt, tt)
      go ((y, ys) ∷ groups) k u = elim (apart x y) as (λ t. StartsDontFall (map (window_of_group time) (cond t ((x, []) ∷ (y, ys) ∷ groups) ((x, y ∷ ys) ∷ groups)))) [ true ↦ (later ((y, ys) ∷ groups) k, u) | false ↦ (later groups k.1, u.1) ]

  -- ---- where rows are cut at a timestamp
  -- neighbours on its two sides are apart
  abbrev pub CutAt : ℕ → List A → Type 0
  CutAt p rows = (l : List A) (x y : A) (m : List A) → rows ≡ l ++ x ∷ y ∷ m → time x < p → p ≤ time y → apart x y ≡ true

  cut_later : (p : ℕ) (l r rows : List A) → rows ≡ l ++ r → CutAt p rows → CutAt p r
  cut_later p l r rows e h = λ k x y m d a b. h (l ++ k) x y m (e ∙ ap (λ (z : List A). l ++ z) d ∙ sym (append_assoc l k (x ∷ y ∷ m))) a b

  to_last : (x : A) (xs : List A) → (front : List A) × (x ∷ xs ≡ front ++ last_of x xs ∷ [])
  to_last x [] = ([], refl)
  to_last x (y ∷ ys) = let h = to_last y ys in (x ∷ h.0, ap (λ (l : List A). x ∷ l) h.1)

  last_each : (P : A → Type 0) (x : A) (xs : List A) → AllByRecursion P (x ∷ xs) → P (last_of x xs)
  last_each P x [] h = h.0
  last_each P x (y ∷ ys) h = last_each P y ys h.1

  cut_is_joint : (p : ℕ) (l r : List A) → CutAt p (l ++ r) → AllByRecursion (λ x. time x < p) l → AllByRecursion (λ y. p ≤ time y) r → Joint l r
  cut_is_joint p [] r h a b = tt
  cut_is_joint p (x ∷ xs) [] h a b = tt
  cut_is_joint p (x ∷ xs) (y ∷ ys) h a b =
      let t = to_last x xs in
      h t.0 (last_of x xs) y ys (ap (λ (l : List A). l ++ y ∷ ys) t.1 ∙ append_assoc t.0 (last_of x xs ∷ []) (y ∷ ys)) (last_each (λ z. time z < p) x xs a) b.0

  all_below : (p : ℕ) (rows : List A) → AllByRecursion (λ x. time x < p) (below p rows)
  all_below p rows = each_weaker (λ x. Unit {0} × (ltb (time x) p ≡ true)) (λ x. time x < p) (λ x h. ltb-true (time x) p h.1) (below p rows) (each_filter (λ x. Unit {0}) (λ x. ltb (time x) p) rows (each_true (λ x. Unit {0}) (λ x. tt) rows))

  all_from : (p : ℕ) (rows : List A) → AllByRecursion (λ x. p ≤ time x) (from p rows)
  all_from p rows = each_weaker (λ x. Unit {0} × (leb p (time x) ≡ true)) (λ x. p ≤ time x) (λ x h. leb-true p (time x) h.1) (from p rows) (each_filter (λ x. Unit {0}) (λ x. leb p (time x)) rows (each_true (λ x. Unit {0}) (λ x. tt) rows))

  pub windows_divide : (p : ℕ) (rows : List A) → DontFall rows → CutAt p rows → windows rows ≡ windows (below p rows) ++ windows (from p rows)
  windows_divide p rows up h =
      let e = divided p rows up in
      ap windows e ∙ ap (map (window_of_group time)) (cut_divides (below p rows) (from p rows) (cut_is_joint p (below p rows) (from p rows) (subst (CutAt p) e h) (all_below p rows) (all_from p rows))) ∙ map-append (window_of_group time) (cut apart (below p rows)) (cut apart (from p rows))

  -- ---- the parts of rows at a range
  module _ (r : Range) (ordered : IsRange r) where
    in_range_is : (rows : List A) → below (r.hi + 1) (from r.lo rows) ≡ rows_in time r rows
    in_range_is [] = refl
    in_range_is (x ∷ rows) = go (in_range_is rows) (leb r.lo (time x)) refl (cases_lt r.hi (time x))
      where
        go : below (r.hi + 1) (from r.lo rows) ≡ rows_in time r rows → (t : Bool) → leb r.lo (time x) ≡ t → (r.hi < time x) ⊎ (time x ≤ r.hi) → below (r.hi + 1) (from r.lo (x ∷ rows)) ≡ rows_in time r (x ∷ rows)
        go rest false e l = rw e rest
        go rest true e (inl l) =
            let a : leb (time x) r.hi ≡ false = lt-leb (time x) r.hi l in
            let b : ltb (time x) (r.hi + 1) ≡ false = le-ltb (time x) (r.hi + 1) (omega arith) in
            rw (e, a, b) rest
        go rest true e (inr l) =
            let a : leb (time x) r.hi ≡ true = le-leb (time x) r.hi l in
            let b : ltb (time x) (r.hi + 1) ≡ true = lt-ltb (time x) (r.hi + 1) (omega arith) in
            rw (e, a, b) (ap (λ (k : List A). x ∷ k) rest)

    after_range_is : (rows : List A) → from (r.hi + 1) (from r.lo rows) ≡ from (r.hi + 1) rows
    after_range_is = filter_of_filter (λ x. leb (r.hi + 1) (time x)) (λ x. leb r.lo (time x)) (λ x e. let l = leb-true (r.hi + 1) (time x) e in le-leb r.lo (time x) (omega arith))

    pub three_parts : (rows : List A) → DontFall rows → CutAt r.lo rows → CutAt (r.hi + 1) rows → windows rows ≡ windows (below r.lo rows) ++ (windows (rows_in time r rows) ++ windows (from (r.hi + 1) rows))
    three_parts rows up a b =
        windows_divide r.lo rows up a ∙ ap (λ (w : List (Window A)). windows (below r.lo rows) ++ w) (windows_divide (r.hi + 1) (from r.lo rows) (filter_in_order (λ x. leb r.lo (time x)) rows up) (cut_later (r.hi + 1) (below r.lo rows) (from r.lo rows) rows (divided r.lo rows up) b) ∙ ap (λ (l : List A). windows l ++ windows (from (r.hi + 1) (from r.lo rows))) (in_range_is rows) ∙ ap (λ (l : List A). windows (rows_in time r rows) ++ windows l) (after_range_is rows))

    -- what is cut later than the range
    cut_after : (p : ℕ) (rows : List A) → DontFall rows → CutAt p rows → CutAt p (from (r.hi + 1) rows)
    cut_after p rows up h = cut_later p (below (r.hi + 1) rows) (from (r.hi + 1) rows) rows (divided (r.hi + 1) rows up) h

  abbrev pub CutAtEach : List Range → List A → Type 0
  CutAtEach rs rows = AllByRecursion (λ (r : Range). CutAt r.lo rows × CutAt (r.hi + 1) rows) rs

  abbrev pub inside : Window A → Range → Bool
  inside w r = leb r.lo (from_0 w.start) && leb (from_0 w.end) r.hi

  -- ---- the splice
  module _ (r : Range) (rs : List Range) (later : AllByRecursion (λ s. r.hi + 0 < s.lo) rs) (ordered : IsRange r) where
    -- a window of rows before the range is wholly inside none
    before_all : (w : Window A) → from_0 w.start < r.lo → not (list_any (inside w) (r ∷ rs)) ≡ true
    before_all w h = not_from_false (list_any (inside w) (r ∷ rs)) (or_from (inside w r) (list_any (inside w) rs) (and_left (leb r.lo (from_0 w.start)) (leb (from_0 w.end) r.hi) (lt-leb r.lo (from_0 w.start) h)) (others rs later))
      where
        others : (ss : List Range) → AllByRecursion (λ s. r.hi + 0 < s.lo) ss → list_any (inside w) ss ≡ false
        others [] k = refl
        others (s ∷ ss) k = let l = k.0 in or_from (inside w s) (list_any (inside w) ss) (and_left (leb s.lo (from_0 w.start)) (leb (from_0 w.end) s.hi) (lt-leb s.lo (from_0 w.start) (omega arith))) (others ss k.1)

    in_one : (w : Window A) → r.lo ≤ from_0 w.start → from_0 w.end ≤ r.hi → inside w r ≡ true
    in_one w a b = and_from (leb r.lo (from_0 w.start)) (leb (from_0 w.end) r.hi) (le-leb r.lo (from_0 w.start) a) (le-leb (from_0 w.end) r.hi b)

    not_in_one : (w : Window A) → r.hi < from_0 w.end → inside w r ≡ false
    not_in_one w h = and_right (leb r.lo (from_0 w.start)) (leb (from_0 w.end) r.hi) (lt-leb (from_0 w.end) r.hi h)

    all_in : (rows : List A) → AllByRecursion (λ x. (r.lo ≤ time x) × (time x ≤ r.hi)) (rows_in time r rows)
    all_in rows = each_weaker (λ x. Unit {0} × (holds r (time x) ≡ true)) (λ x. (r.lo ≤ time x) × (time x ≤ r.hi)) (λ x h. let b = and_parts (leb r.lo (time x)) (leb (time x) r.hi) h.1 in (leb-true r.lo (time x) b.0, leb-true (time x) r.hi b.1)) (rows_in time r rows) (each_filter (λ x. Unit {0}) (λ x. holds r (time x)) rows (each_true (λ x. Unit {0}) (λ x. tt) rows))

    inside_windows : (rows : List A) → AllByRecursion (λ w. inside w r ≡ true) (windows (rows_in time r rows))
    inside_windows rows = each_window (λ w. inside w r ≡ true) (λ x. (r.lo ≤ time x) × (time x ≤ r.hi)) (λ g a b. in_one (window_of_group time g) a.0 b.1) (rows_in time r rows) (all_in rows)

    kept_parts : (rows : List A) → kept inside (r ∷ rs) (windows (below r.lo rows) ++ (windows (rows_in time r rows) ++ windows (from (r.hi + 1) rows))) ≡ windows (below r.lo rows) ++ kept inside rs (windows (from (r.hi + 1) rows))
    kept_parts rows = filter-append stays (windows (below r.lo rows)) (windows (rows_in time r rows) ++ windows (from (r.hi + 1) rows)) ∙ ap (λ (l : List (Window A)). l ++ filter stays (windows (rows_in time r rows) ++ windows (from (r.hi + 1) rows))) first ∙ ap (λ (l : List (Window A)). windows (below r.lo rows) ++ l) (filter-append stays (windows (rows_in time r rows)) (windows (from (r.hi + 1) rows)) ∙ ap (λ (l : List (Window A)). l ++ filter stays (windows (from (r.hi + 1) rows))) second ∙ third)
      where
        stays : Window A → Bool
        stays w = not (list_any (inside w) (r ∷ rs))

        first : filter stays (windows (below r.lo rows)) ≡ windows (below r.lo rows)
        first = filter_every stays (windows (below r.lo rows)) (each_window (λ w. stays w ≡ true) (λ x. time x < r.lo) (λ g a b. before_all (window_of_group time g) a) (below r.lo rows) (all_below r.lo rows))

        second : filter stays (windows (rows_in time r rows)) ≡ []
        second = filter_none stays (windows (rows_in time r rows)) (each_weaker (λ w. inside w r ≡ true) (λ w. stays w ≡ false) (λ w e. rw e refl) (windows (rows_in time r rows)) (inside_windows rows))

        third : filter stays (windows (from (r.hi + 1) rows)) ≡ kept inside rs (windows (from (r.hi + 1) rows))
        third = filter_agrees stays (λ w. not (list_any (inside w) rs)) (windows (from (r.hi + 1) rows)) (each_window (λ w. stays w ≡ not (list_any (inside w) rs)) (λ x. r.hi + 1 ≤ time x) (λ g a b. let e : inside (window_of_group time g) r ≡ false = not_in_one (window_of_group time g) (omega arith) in rw e refl) (from (r.hi + 1) rows) (all_from (r.hi + 1) rows))

    made_first : (rows : List A) → filter (λ w. inside w r) (windows (rows_in time r rows)) ≡ windows (rows_in time r rows)
    made_first rows = filter_every (λ w. inside w r) (windows (rows_in time r rows)) (inside_windows rows)

    made_rest : (rows : List A) (ss : List Range) → AllByRecursion (λ s. r.hi + 0 < s.lo) ss → made inside ss (λ s. windows (rows_in time s rows)) ≡ made inside ss (λ s. windows (rows_in time s (from (r.hi + 1) rows)))
    made_rest rows [] h = refl
    made_rest rows (s ∷ ss) h =
        let l = h.0 in
        let same : rows_in time s rows ≡ rows_in time s (from (r.hi + 1) rows) = sym (filter_of_filter (λ x. holds s (time x)) (λ x. leb (r.hi + 1) (time x)) (λ x e. let b = and_parts (leb s.lo (time x)) (leb (time x) s.hi) e in let k = leb-true s.lo (time x) b.0 in le-leb (r.hi + 1) (time x) (omega arith)) rows) in
        ap (λ (q : List A). filter (λ w. inside w s) (windows q) ++ made inside ss (λ s. windows (rows_in time s rows))) same ∙ ap (λ (q : List (Window A)). filter (λ w. inside w s) (windows (rows_in time s (from (r.hi + 1) rows))) ++ q) (made_rest rows ss h.1)

    -- what is made later starts later
    made_after : (rows : List A) (ss : List Range) → AllByRecursion (λ s. r.hi + 0 < s.lo) ss → AllByRecursion (λ (w : Window A). pos (r.hi + 1) ≤ℤ w.start) (made inside ss (λ s. windows (rows_in time s rows)))
    made_after rows [] h = tt
    made_after rows (s ∷ ss) h = each_append (λ (w : Window A). pos (r.hi + 1) ≤ℤ w.start) (filter (λ w. inside w s) (windows (rows_in time s rows))) (made inside ss (λ s. windows (rows_in time s rows))) (each_weaker (λ (w : Window A). (pos (r.hi + 1) ≤ℤ w.start) × (inside w s ≡ true)) (λ w. pos (r.hi + 1) ≤ℤ w.start) (λ w p. p.0) (filter (λ w. inside w s) (windows (rows_in time s rows))) (each_filter (λ (w : Window A). pos (r.hi + 1) ≤ℤ w.start) (λ w. inside w s) (windows (rows_in time s rows)) (each_window (λ (w : Window A). pos (r.hi + 1) ≤ℤ w.start) (λ x. s.lo ≤ time x) (λ g a b. let l = h.0 in omega (arith, ints)) (rows_in time s rows) (each_weaker (λ x. Unit {0} × (holds s (time x) ≡ true)) (λ x. s.lo ≤ time x) (λ x e. let b = and_parts (leb s.lo (time x)) (leb (time x) s.hi) e.1 in leb-true s.lo (time x) b.0) (rows_in time s rows) (each_filter (λ x. Unit {0}) (λ x. holds s (time x)) rows (each_true (λ x. Unit {0}) (λ x. tt) rows)))))) (made_after rows ss h.1)

    same_below : (before after : List A) → untouched time (r ∷ rs) before ≡ untouched time (r ∷ rs) after → below r.lo before ≡ below r.lo after
    same_below before after e = filter_alike (λ x. ltb (time x) r.lo) (λ x. not (is_touched (r ∷ rs) (time x))) out before after e
      where
        out : (x : A) → ltb (time x) r.lo ≡ true → not (is_touched (r ∷ rs) (time x)) ≡ true
        out x h = not_from_false (is_touched (r ∷ rs) (time x)) (or_from (holds r (time x)) (is_touched rs (time x)) (and_left (leb r.lo (time x)) (leb (time x) r.hi) (lt-leb r.lo (time x) l)) (others rs later))
          where
            l : time x < r.lo
            l = ltb-true (time x) r.lo h

            others : (ss : List Range) → AllByRecursion (λ s. r.hi + 0 < s.lo) ss → is_touched ss (time x) ≡ false
            others [] k = refl
            others (s ∷ ss) k = let m = k.0 in let n = l in or_from (holds s (time x)) (is_touched ss (time x)) (and_left (leb s.lo (time x)) (leb (time x) s.hi) (lt-leb s.lo (time x) (omega arith))) (others ss k.1)

    same_after : (before after : List A) → untouched time (r ∷ rs) before ≡ untouched time (r ∷ rs) after → untouched time rs (from (r.hi + 1) before) ≡ untouched time rs (from (r.hi + 1) after)
    same_after before after e = one before ∙ ap (from (r.hi + 1)) e ∙ sym (one after)
      where
        one : (rows : List A) → untouched time rs (from (r.hi + 1) rows) ≡ from (r.hi + 1) (untouched time (r ∷ rs) rows)
        one rows = filter_twice (λ x. not (is_touched rs (time x))) (λ x. leb (r.hi + 1) (time x)) rows ∙ filter_agrees (λ x. leb (r.hi + 1) (time x) && not (is_touched rs (time x))) (λ x. not (is_touched (r ∷ rs) (time x)) && leb (r.hi + 1) (time x)) rows (each_true (λ x. (leb (r.hi + 1) (time x) && not (is_touched rs (time x))) ≡ (not (is_touched (r ∷ rs) (time x)) && leb (r.hi + 1) (time x))) (λ x. point (time x) (cases_lt r.hi (time x))) rows) ∙ sym (filter_twice (λ x. leb (r.hi + 1) (time x)) (λ x. not (is_touched (r ∷ rs) (time x))) rows)
          where
            point : (t : ℕ) → (r.hi < t) ⊎ (t ≤ r.hi) → (leb (r.hi + 1) t && not (is_touched rs t)) ≡ (not (is_touched (r ∷ rs) t) && leb (r.hi + 1) t)
            point t (inl l) =
                let a : leb (r.hi + 1) t ≡ true = le-leb (r.hi + 1) t (omega arith) in
                let b : holds r t ≡ false = and_right (leb r.lo t) (leb t r.hi) (lt-leb t r.hi l) in
                rw (a, b) (and_true (not (is_touched rs t)))
            point t (inr l) =
                let a : leb (r.hi + 1) t ≡ false = lt-leb (r.hi + 1) t (omega arith) in
                rw a (sym (and_right (not (is_touched (r ∷ rs) t)) false refl))

  -- the windows of rows after a change, where both lists of rows are cut at the ends of each region
  pub cuts_splice : (regions : List Range) (before after : List A) → AllByRecursion IsRange regions → AreApart 0 regions → DontFall before → DontFall after → CutAtEach regions before → CutAtEach regions after → untouched time regions before ≡ untouched time regions after → windows after ≡ put_all_by_start (kept inside regions (windows before)) (made inside regions (λ r. windows (rows_in time r after)))
  cuts_splice [] before after ranges apart_ up_b up_a cut_b cut_a same =
      let every : (rows : List A) → untouched time [] rows ≡ rows = λ rows. filter_every (λ x. true) rows (each_true (λ x. true ≡ true) (λ x. refl) rows) in
      let e : before ≡ after = sym (every before) ∙ same ∙ every after in
      let k : kept inside [] (windows before) ≡ windows before = filter_every (λ w. true) (windows before) (each_true (λ w. true ≡ true) (λ w. refl) (windows before)) in
      sym (ap windows e) ∙ sym (append-nil (windows before)) ∙ sym (all_kept before up_b) ∙ ap (λ (l : List (Window A)). put_all_by_start l []) (sym k)
    where
      all_kept : (rows : List A) → DontFall rows → put_all_by_start (windows rows) [] ≡ windows rows ++ []
      all_kept rows up = put_alone (windows rows) (window_starts rows up)
  cuts_splice (r ∷ rs) before after ranges apart_ up_b up_a cut_b cut_a same =
      let rest : windows a2 ≡ put_all_by_start (kept inside rs (windows b2)) (made inside rs (λ s. windows (rows_in time s a2))) = cuts_splice rs (from (r.hi + 1) before) (from (r.hi + 1) after) ranges.1 apart_.1 (filter_in_order (λ x. leb (r.hi + 1) (time x)) before up_b) (filter_in_order (λ x. leb (r.hi + 1) (time x)) after up_a) (cuts_later before up_b rs cut_b.1) (cuts_later after up_a rs cut_a.1) (same_after r rs apart_.0 ranges.0 before after same) in
      three_parts r ranges.0 after up_a cut_a.0.0 cut_a.0.1 ∙ joined_up rest
    where
      b2 : List A
      b2 = from (r.hi + 1) before

      a2 : List A
      a2 = from (r.hi + 1) after

      cuts_later : (rows : List A) → DontFall rows → (ss : List Range) → CutAtEach ss rows → CutAtEach ss (from (r.hi + 1) rows)
      cuts_later rows up [] h = tt
      cuts_later rows up (s ∷ ss) h = ((cut_after r ranges.0 s.lo rows up h.0.0, cut_after r ranges.0 (s.hi + 1) rows up h.0.1), cuts_later rows up ss h.1)

      first : List (Window A)
      first = windows (below r.lo after)

      middle : List (Window A)
      middle = windows (rows_in time r after)

      left_over : List (Window A)
      left_over = kept inside rs (windows b2)

      made_then : List (Window A)
      made_then = made inside rs (λ s. windows (rows_in time s after))

      starts_after : AllByRecursion (λ (w : Window A). pos (r.hi + 1) ≤ℤ w.start) left_over
      starts_after = each_weaker (λ (w : Window A). (pos (r.hi + 1) ≤ℤ w.start) × (not (list_any (inside w) rs) ≡ true)) (λ w. pos (r.hi + 1) ≤ℤ w.start) (λ w p. p.0) left_over (each_filter (λ (w : Window A). pos (r.hi + 1) ≤ℤ w.start) (λ w. not (list_any (inside w) rs)) (windows b2) (each_window (λ (w : Window A). pos (r.hi + 1) ≤ℤ w.start) (λ x. r.hi + 1 ≤ time x) (λ g a b. omega (arith, ints)) b2 (all_from (r.hi + 1) before)))

      middle_starts : AllByRecursion (λ (w : Window A). (pos r.lo ≤ℤ w.start) × (w.start <ℤ pos (r.hi + 1))) middle
      middle_starts = each_window (λ (w : Window A). (pos r.lo ≤ℤ w.start) × (w.start <ℤ pos (r.hi + 1))) (λ x. (r.lo ≤ time x) × (time x ≤ r.hi)) (λ g a b. let l = a.0 in let u = a.1 in (omega (arith, ints), omega (arith, ints))) (rows_in time r after) (all_in r rs apart_.0 ranges.0 after)

      joined_up : windows a2 ≡ put_all_by_start left_over (made inside rs (λ s. windows (rows_in time s a2))) → first ++ (middle ++ windows a2) ≡ put_all_by_start (kept inside (r ∷ rs) (windows before)) (made inside (r ∷ rs) (λ s. windows (rows_in time s after)))
      joined_up rest =
          let o = ranges.0 in
          let e1 : windows a2 ≡ put_all_by_start left_over made_then = rest ∙ ap (put_all_by_start left_over) (sym (made_rest r rs apart_.0 o after rs apart_.0)) in
          let e2 : put_all_by_start left_over (middle ++ made_then) ≡ middle ++ put_all_by_start left_over made_then = put_all_past (pos (r.hi + 1)) left_over middle made_then (each_weaker (λ (w : Window A). (pos r.lo ≤ℤ w.start) × (w.start <ℤ pos (r.hi + 1))) (λ w. w.start <ℤ pos (r.hi + 1)) (λ w p. p.1) middle middle_starts) starts_after in
          let low : AllByRecursion (λ (w : Window A). pos r.lo ≤ℤ w.start) (put_all_by_start left_over (middle ++ made_then)) = put_windows_each (λ (w : Window A). pos r.lo ≤ℤ w.start) left_over (middle ++ made_then) (each_weaker (λ (w : Window A). pos (r.hi + 1) ≤ℤ w.start) (λ w. pos r.lo ≤ℤ w.start) (λ w h. omega (arith, ints)) left_over starts_after) (each_append (λ (w : Window A). pos r.lo ≤ℤ w.start) middle made_then (each_weaker (λ (w : Window A). (pos r.lo ≤ℤ w.start) × (w.start <ℤ pos (r.hi + 1))) (λ w. pos r.lo ≤ℤ w.start) (λ w p. p.0) middle middle_starts) (each_weaker (λ (w : Window A). pos (r.hi + 1) ≤ℤ w.start) (λ w. pos r.lo ≤ℤ w.start) (λ w h. omega (arith, ints)) made_then (made_after r rs apart_.0 o after rs apart_.0))) in
          let e3 : put_all_by_start first (put_all_by_start left_over (middle ++ made_then)) ≡ first ++ put_all_by_start left_over (middle ++ made_then) = put_all_front (pos r.lo) first (put_all_by_start left_over (middle ++ made_then)) (window_starts (below r.lo after) (filter_in_order (λ x. ltb (time x) r.lo) after up_a)) (each_window (λ (w : Window A). w.start ≤ℤ pos r.lo) (λ x. time x < r.lo) (λ g a b. omega (arith, ints)) (below r.lo after) (all_below r.lo after)) low in
          let k1 : kept inside (r ∷ rs) (windows before) ≡ windows (below r.lo before) ++ left_over = ap (kept inside (r ∷ rs)) (three_parts r o before up_b cut_b.0.0 cut_b.0.1) ∙ kept_parts r rs apart_.0 o before in
          let k2 : windows (below r.lo before) ≡ first = ap windows (same_below r rs apart_.0 o before after same) in
          let m1 : made inside (r ∷ rs) (λ s. windows (rows_in time s after)) ≡ middle ++ made_then = ap (λ (l : List (Window A)). l ++ made_then) (made_first r rs apart_.0 o after) in
          ap (λ (l : List (Window A)). first ++ (middle ++ l)) e1 ∙ ap (λ (l : List (Window A)). first ++ l) (sym e2) ∙ sym e3 ∙ sym (put_all-append first left_over (middle ++ made_then)) ∙ ap (λ (l : List (Window A)). put_all_by_start (l ++ left_over) (middle ++ made_then)) (sym k2) ∙ ap (λ (l : List (Window A)). put_all_by_start l (middle ++ made_then)) (sym k1) ∙ ap (put_all_by_start (kept inside (r ∷ rs) (windows before))) (sym m1)
