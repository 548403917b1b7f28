-- Why one more interval window is the next one.
use Rattle.std.proofs.Common.{◌≡◌, ◌≢◌, ◌⊎◌, ℕ, zero, suc, ◌+◌, ◌-◌, ◌*◌, ◌/◌, ◌%◌, ◌<◌, ◌≤◌, max, ℤ, pos, negsuc, ◌+ℤ◌, ◌-ℤ◌, ◌<ℤ◌, ◌≤ℤ◌, int_le, int_lt, Bool, true, false, ◌&&◌, List, [], ◌∷◌, ◌++◌, map, filter, length, refl, sym, ap, ◌∙◌, subst, arith, inl, inr, Contains}
use Rattle.std.proofs.lemmas.List.{append-nil, map_push}
use Rattle.std.proofs.lemmas.Int.{ints}
use Rattle.std.proofs.lemmas.Bool.{cases_lt}
use Rattle.std.proofs.lemmas.List.Elements.{filter-append, Contains-push, Contains-append_left}
use Rattle.std.proofs.Math.Nat.{mul-le-mul_right, add-mul}
use Rattle.std.specs.List.{range_with_len, AllByRecursion}
use Rattle.std.specs.List.Sorted.{IsNonDecreasing}
use Rattle.td_window.specs.Windows.{Window, is_within, interval_window, IsStart, StartsRise, IsIntervalWindow, AreIntervalWindows}
use Rattle.td_window.specs.Spans.{time_at, window_of, places}
use Rattle.td_window.specs.declared.span.Span.{Span}
use Rattle.td_window.proofs.Cuts.{range_at, range_first, filter_no_range, filter_whole_range}

-- ---- lists with one more at the end
all_push : {A : Type 0} (P : A → Type 0) (xs : List A) (x : A) → AllByRecursion P xs → P x → AllByRecursion P (xs ++ x ∷ [])
all_push P [] x h p = (p, tt)
all_push P (y ∷ xs) x h p = (h.0, all_push P xs x h.1 p)

all_weaker : {A : Type 0} (P Q : A → Type 0) → ((x : A) → P x → Q x) → (xs : List A) → AllByRecursion P xs → AllByRecursion Q xs
all_weaker P Q f [] h = tt
all_weaker P Q f (x ∷ xs) h = (f x h.0, all_weaker P Q f xs h.1)

StartsRise-push : {A : Type 0} (ws : List (Window A)) (w : Window A) → StartsRise ws → AllByRecursion (λ v. v.start <ℤ w.start) ws → StartsRise (ws ++ w ∷ [])
StartsRise-push [] w r b = (tt, tt)
StartsRise-push (v ∷ ws) w r b = (all_push (λ u. v.start <ℤ u.start) ws w r.0 b.0, StartsRise-push ws w r.1 b.1)

-- a place that passes, of those of a list
found_in_range : (test : ℕ → Bool) (a m : ℕ) → filter test (range_with_len a m) ≢ [] → (p : ℕ) × (a ≤ p) × (p < a + m) × (test p ≡ true)
found_in_range test a zero h = absurd (h refl)
found_in_range test a (suc m) h = go (λ none. later (found_in_range test (a + 1) m none)) (test a) refl
  where
    later : (p : ℕ) × (a + 1 ≤ p) × (p < a + 1 + m) × (test p ≡ true) → (p : ℕ) × (a ≤ p) × (p < a + suc m) × (test p ≡ true)
    later f = (f.0, omega (arith, f.1), omega (arith, f.2), f.3)

    go : ((filter test (range_with_len (a + 1) m) ≢ []) → (p : ℕ) × (a ≤ p) × (p < a + suc m) × (test p ≡ true)) → (t : Bool) → test a ≡ t → (p : ℕ) × (a ≤ p) × (p < a + suc m) × (test p ≡ true)
    go rest true e = (a, omega arith, omega arith, e)
    go rest false e = rest (λ none. h (rw e none))

-- ---- what lies within a window
both_out : (a b : Bool) → (a && b) ≡ true → (a ≡ true) × (b ≡ true)
both_out true b e = (refl, e)
both_out false b e = cc

within_out : (len : ℕ) (k : ℤ) (t : ℕ) → is_within len k t ≡ true → (k ≤ℤ pos t) × (pos t <ℤ (k +ℤ pos len))
within_out len k t e =
    let b = both_out (int_le k (pos t)) (int_lt (pos t) (k +ℤ pos len)) e in
    let l = b.0 in
    let r = b.1 in
    (omega (arith, ints), omega (arith, ints))

is_inside : (len e t : ℕ) → e ≤ t + len → t < e → is_within len (pos e -ℤ pos len) t ≡ true
is_inside len e t a b =
    let l : int_le (pos e -ℤ pos len) (pos t) ≡ true = grind (arith, ints) in
    let r : int_lt (pos t) ((pos e -ℤ pos len) +ℤ pos len) ≡ true = grind (arith, ints) in
    rw (l, r)

is_before : (len e t : ℕ) → t + len < e → is_within len (pos e -ℤ pos len) t ≡ false
is_before len e t a = let l : int_le (pos e -ℤ pos len) (pos t) ≡ false = grind (arith, ints) in rw l

and_false : (a b : Bool) → b ≡ false → (a && b) ≡ false
and_false true b e = e
and_false false b e = refl

is_after : (len e t : ℕ) → e ≤ t → is_within len (pos e -ℤ pos len) t ≡ false
is_after len e t a =
    let r : int_lt (pos t) ((pos e -ℤ pos len) +ℤ pos len) ≡ false = grind (arith, ints) in
    and_false (int_le (pos e -ℤ pos len) (pos t)) (int_lt (pos t) ((pos e -ℤ pos len) +ℤ pos len)) r

-- ---- the places of a window that ends at e
module _ (ts : List ℕ) (len e : ℕ) where
  abbrev test : ℕ → Bool
  test place = is_within len (pos e -ℤ pos len) (time_at ts place)

  rows_within : (first past : ℕ) → first ≤ past → past ≤ length ts → ((p : ℕ) → p < first → time_at ts p + len < e) → ((p : ℕ) → first ≤ p → p < past → e ≤ time_at ts p + len) → ((p : ℕ) → first ≤ p → p < past → time_at ts p < e) → ((p : ℕ) → past ≤ p → p < length ts → e ≤ time_at ts p) → filter test (places (length ts)) ≡ range_with_len first (past - first)
  rows_within first past a b before low high after =
      ap (filter test) divided ∙ filter-append test front (middle ++ back) ∙ ap (λ l. l ++ filter test (middle ++ back)) no_front ∙ filter-append test middle back ∙ ap (λ l. l ++ filter test back) whole_middle ∙ ap (λ l. middle ++ l) no_back ∙ append-nil middle
    where
      front : List ℕ
      front = range_with_len 0 (first - 0)

      middle : List ℕ
      middle = range_with_len first (past - first)

      back : List ℕ
      back = range_with_len past (length ts - past)

      divided : places (length ts) ≡ front ++ (middle ++ back)
      divided =
          let n : length ts ≡ length ts - 0 = omega arith in
          ap (range_with_len 0) n ∙ range_at 0 first (length ts) (omega arith) (omega arith) ∙ ap (λ l. front ++ l) (range_at first past (length ts) a b)

      no_front : filter test front ≡ []
      no_front = filter_no_range test 0 (first - 0) (λ p u v. is_before len e (time_at ts p) (before p (omega arith)))

      whole_middle : filter test middle ≡ middle
      whole_middle = filter_whole_range test first (past - first) (λ p u v. is_inside len e (time_at ts p) (low p u (omega arith)) (high p u (omega arith)))

      no_back : filter test back ≡ []
      no_back = filter_no_range test past (length ts - past) (λ p u v. is_after len e (time_at ts p) (after p u (omega arith)))

-- ---- where windows end
products : (a b c s : ℕ) → a + b ≡ c → a * s + b * s ≡ c * s
products a b c s e = sym (add-mul a b s) ∙ ap (λ k. k * s) e

module _ (offset len slide : ℕ) where
  abbrev phase : ℕ
  phase = (offset + len) % slide

  abbrev turns : ℕ
  turns = (offset + len) / slide

  -- windows of rows end at these
  abbrev pub IsEnd : ℕ → Type 0
  IsEnd e = (q : ℕ) × (e ≡ phase + q * slide)

  start_is : 0 < slide → (e : ℕ) → IsEnd e → IsStart offset slide (pos e -ℤ pos len)
  start_is s e (q, d) = go (cases_lt q turns)
    where
      go : (q < turns) ⊎ (turns ≤ q) → IsStart offset slide (pos e -ℤ pos len)
      go (inl h) =
          let m : (turns - q) * slide + q * slide ≡ turns * slide = products (turns - q) q turns slide (omega arith) in
          let k : suc (turns - q - 1) ≡ turns - q = omega arith in
          (negsuc (turns - q - 1), rw k (omega (arith, ints, m)))
      go (inr h) =
          let m : (q - turns) * slide + turns * slide ≡ q * slide = products (q - turns) turns q slide (omega arith) in
          (pos (q - turns), omega (arith, ints, m))

  end_is : 0 < slide → (k : ℤ) (t : ℕ) → IsStart offset slide k → pos t <ℤ (k +ℤ pos len) → (e : ℕ) × (k +ℤ pos len ≡ pos e) × IsEnd e
  end_is s k t (pos j, d) h =
      (phase + (turns + j) * slide, omega (arith, ints, d), (turns + j, refl))
  end_is s k t (negsuc j, d) h = go (cases_lt j turns)
    where
      go : (j < turns) ⊎ (turns ≤ j) → (e : ℕ) × (k +ℤ pos len ≡ pos e) × IsEnd e
      go (inl l) =
          let m : (turns - suc j) * slide + suc j * slide ≡ turns * slide = products (turns - suc j) (suc j) turns slide (omega arith) in
          (phase + (turns - suc j) * slide, omega (arith, ints, d, m), (turns - suc j, refl))
      go (inr l) =
          let m : (turns + 1) * slide ≤ suc j * slide = mul-le-mul_right slide (omega arith) in
          absurd (omega (arith, ints, d, m))

  -- ends that are less than a slide apart are equal
  one_slide : (q r : ℕ) → phase + q * slide < phase + r * slide + slide → q ≤ r
  one_slide q r h = go (cases_lt r q)
    where
      go : (r < q) ⊎ (q ≤ r) → q ≤ r
      go (inl l) = let m : (r + 1) * slide ≤ q * slide = mul-le-mul_right slide (omega arith) in absurd (omega (arith, m))
      go (inr l) = l

  same_end : (a b : ℕ) → IsEnd a → IsEnd b → a ≤ b → b < a + slide → a ≡ b
  same_end a b (q, d) (r, e) l h =
      let x : r ≤ q = one_slide r q (omega (arith, d, e)) in
      let y : q ≤ r = one_slide q r (omega (arith, d, e)) in
      let z : q ≡ r = omega arith in
      d ∙ ap (λ k. phase + k * slide) z ∙ sym e

-- ---- the windows so far
module _ (ts : List ℕ) (len offset slide : ℕ) where
  abbrev IsOne : Window ℕ → Type 0
  IsOne = IsIntervalWindow (time_at ts) len offset slide (places (length ts))

  -- all windows that end before e
  pub record SoFar (ws : List (Window ℕ)) (e : ℕ) : Type 0 where
    pub each : AllByRecursion IsOne ws
    pub all : (w : Window ℕ) → IsOne w → w.end <ℤ pos e → Contains ws w
    pub by_start : StartsRise ws
    pub below : AllByRecursion (λ w. w.end <ℤ pos e) ws

  -- where a window lies, and a row of it
  record Lies (w : Window ℕ) : Type 0 where
    end : ℕ
    end_is : w.end ≡ pos end
    start_is : w.start ≡ pos end -ℤ pos len
    on_grid : IsEnd offset len slide end
    row : ℕ
    row_inside : row < length ts
    after_start : end ≤ time_at ts row + len
    before_end : time_at ts row < end

  lies : 0 < slide → (w : Window ℕ) → IsOne w → Lies w
  lies s w one =
      let rows : w.rows ≡ filter (λ row. is_within len w.start (time_at ts row)) (places (length ts)) = ap (λ (v : Window ℕ). v.rows) one.is in
      let found = found_in_range (λ row. is_within len w.start (time_at ts row)) 0 (length ts) (λ none. one.holds (rows ∙ none)) in
      let inside = within_out len w.start (time_at ts found.0) found.3 in
      let grid = end_is offset len slide s w.start (time_at ts found.0) one.starts inside.1 in
      let ends : w.end ≡ w.start +ℤ pos len = ap (λ (v : Window ℕ). v.end) one.is in
      let after = inside.0 in
      let before = inside.1 in
      let at : w.start +ℤ pos len ≡ pos grid.0 = grid.1 in
      record {
        end = grid.0;
        end_is = ends ∙ at;
        start_is = omega (arith, ints);
        on_grid = grid.2;
        row = found.0;
        row_inside = omega (arith, found.2);
        after_start = omega (arith, ints);
        before_end = omega (arith, ints);
      }

  -- the window that ends at e
  abbrev pub window_ending : ℕ → ℕ → ℕ → Window ℕ
  window_ending e first past = record { start = pos e -ℤ pos len; end = pos e; rows = range_with_len first (past - first) }

  pub one_more : 0 < slide → (ws : List (Window ℕ)) (e f first past : ℕ) → SoFar ws e → e ≤ f → IsEnd offset len slide f → ((w : Window ℕ) → IsOne w → w.end <ℤ pos f → w.end <ℤ pos e) → IsOne (window_ending f first past) → SoFar (ws ++ window_ending f first past ∷ []) (f + slide)
  one_more s ws e f first past so l grid none one = record {
    each = all_push IsOne ws new so.each one;
    all = every;
    by_start = StartsRise-push ws new so.by_start (starts_before ws so.each so.below);
    below = all_push (λ w. w.end <ℤ pos (f + slide)) ws new (all_weaker (λ w. w.end <ℤ pos e) (λ w. w.end <ℤ pos (f + slide)) (λ w h. omega (arith, ints)) ws so.below) (omega (arith, ints));
  }
    where
      new : Window ℕ
      new = window_ending f first past

      starts_before : (vs : List (Window ℕ)) → AllByRecursion IsOne vs → AllByRecursion (λ w. w.end <ℤ pos e) vs → AllByRecursion (λ v. v.start <ℤ new.start) vs
      starts_before [] o b = tt
      starts_before (v ∷ vs) o b =
          let at = lies s v o.0 in
          let end_is = at.end_is in
          let start_is = at.start_is in
          let low = b.0 in
          (omega (arith, ints), starts_before vs o.1 b.1)

      same : (w : Window ℕ) → IsOne w → w.start ≡ new.start → w ≡ new
      same w o d = o.is ∙ ap (interval_window (time_at ts) len (places (length ts))) d ∙ sym one.is

      every : (w : Window ℕ) → IsOne w → w.end <ℤ pos (f + slide) → Contains (ws ++ new ∷ []) w
      every w o b = go (cases_lt at.end f)
        where
          at : Lies w
          at = lies s w o

          go : (at.end < f) ⊎ (f ≤ at.end) → Contains (ws ++ new ∷ []) w
          go (inl h) =
              let end_is = at.end_is in
              Contains-append_left ws (new ∷ []) w (so.all w o (none w o (omega (arith, ints))))
          go (inr h) =
              let end_is = at.end_is in
              let below : at.end < f + slide = omega (arith, ints) in
              let d : f ≡ at.end = same_end offset len slide f at.end grid at.on_grid h below in
              let start_is = at.start_is in
              let e : w ≡ new = same w o (start_is ∙ ap (λ k. pos k -ℤ pos len) (sym d)) in
              subst (Contains (ws ++ new ∷ [])) (sym e) (Contains-push ws new)

  -- what the loop knows
  pub record Loop (ws : List (Window ℕ)) (e first past : ℕ) : Type 0 where
    pub first_inside : first ≤ length ts
    pub past_inside : past ≤ length ts
    pub grid : IsEnd offset len slide e
    pub before : (p : ℕ) → p < first → time_at ts p + len < e
    pub after : (p : ℕ) → first ≤ p → p < length ts → e ≤ time_at ts p + len
    pub below : (p : ℕ) → p < past → time_at ts p < e
    pub so_far : SoFar ws e

  pub loop_begins : 0 < slide → slide ≤ len → Loop [] (phase offset len slide) 0 0
  loop_begins s l = record {
    first_inside = omega arith;
    past_inside = omega arith;
    grid = (0, omega arith);
    before = λ p h. absurd (omega arith);
    after = λ p a h. omega arith;
    below = λ p h. absurd (omega arith);
    so_far = record {
      each = tt;
      all = λ w o h. absurd (too_low w (lies s w o) h);
      by_start = tt;
      below = tt;
    };
  }
    where
      too_low : (w : Window ℕ) (at : Lies w) → w.end <ℤ pos (phase offset len slide) → ⊥
      too_low w at h =
          let end_is = at.end_is in
          let grid = at.on_grid.1 in
          omega (arith, ints)

  pub loop_ends : 0 < slide → (ws : List (Window ℕ)) (e first past : ℕ) → Loop ws e first past → length ts ≤ first → AreIntervalWindows (time_at ts) len offset slide (places (length ts)) ws
  loop_ends s ws e first past l done = record {
    each = l.so_far.each;
    all = λ w o. l.so_far.all w o (low w (lies s w o));
    by_start = l.so_far.by_start;
  }
    where
      low : (w : Window ℕ) → Lies w → w.end <ℤ pos e
      low w at =
          let end_is = at.end_is in
          let b = l.before at.row (omega (arith, at.row_inside)) in
          let a = at.after_start in
          omega (arith, ints)

  -- the end of the next window that holds a row
  pub record Next (e first f : ℕ) : Type 0 where
    pub least : ℕ
    pub is : f ≡ max e least
    pub grid : IsEnd offset len slide least
    pub past : time_at ts first < least
    pub near : least ≤ time_at ts first + slide
    pub none_less : (q : ℕ) → time_at ts first < phase offset len slide + q * slide → least ≤ phase offset len slide + q * slide

  pub next_loop : 0 < slide → slide ≤ len → IsNonDecreasing ts → (ws : List (Window ℕ)) (e first past f past' first' : ℕ) → Loop ws e first past → first < length ts → Next e first f → max first past ≤ past' → past' ≤ length ts → ((p : ℕ) → max first past ≤ p → p < past' → time_at ts p < f) → (past' < length ts → f ≤ time_at ts past') → first ≤ first' → first' ≤ length ts → ((p : ℕ) → first ≤ p → p < first' → time_at ts p < f + slide - len) → (first' < length ts → f + slide - len ≤ time_at ts first') → (first < past') × Loop (ws ++ window_ending f first past' ∷ []) (f + slide) first' past'
  next_loop s l up ws e first past f past' first' loop inside next a b low stop c d early begun = (
    holds,
    record {
      first_inside = d;
      past_inside = b;
      grid = (grid.0 + 1, next_grid);
      before = λ p h. earlier p (cases_lt p first) h;
      after = λ p h i. later p h i;
      below = λ p h. let x = high p h in omega arith;
      so_far = one_more s ws e f first past' loop.so_far lower grid none one;
    },
  )
    where
      lower : e ≤ f
      lower = omega (arith, next.is)

      from_least : next.least ≤ f
      from_least = omega (arith, next.is)

      grid : IsEnd offset len slide f
      grid = go (cases_lt e next.least)
        where
          go : (e < next.least) ⊎ (next.least ≤ e) → IsEnd offset len slide f
          go (inl h) = let x : f ≡ next.least = omega (arith, next.is) in (next.grid.0, x ∙ next.grid.1)
          go (inr h) = let x : f ≡ e = omega (arith, next.is) in (loop.grid.0, x ∙ loop.grid.1)

      next_grid : f + slide ≡ phase offset len slide + (grid.0 + 1) * slide
      next_grid = omega (arith, grid.1)

      holds : first < past'
      holds = go (cases_lt first past')
        where
          go : (first < past') ⊎ (past' ≤ first) → first < past'
          go (inl h) = h
          go (inr h) =
              let x : past' ≡ first = omega arith in
              let y : f ≤ time_at ts first = subst (λ k. f ≤ time_at ts k) x (stop (omega arith)) in
              absurd (omega (arith, next.past, from_least))

      high : (p : ℕ) → p < past' → time_at ts p < f
      high p h = go (cases_lt p past) (cases_lt p first)
        where
          go : (p < past) ⊎ (past ≤ p) → (p < first) ⊎ (first ≤ p) → time_at ts p < f
          go (inl x) y = let z = loop.below p x in omega (arith, lower)
          go (inr x) (inl y) = let z = loop.before p y in omega (arith, lower)
          go (inr x) (inr y) = low p (omega arith) h

      late : (p : ℕ) → past' ≤ p → p < length ts → f ≤ time_at ts p
      late p h i = let x = stop (omega arith) in let y = up past' p 0 h i in omega arith

      from_start : (p : ℕ) → first ≤ p → p < length ts → f ≤ time_at ts p + len
      from_start p h i =
          let x = loop.after p h i in
          let y = up first p 0 h i in
          omega (arith, next.is, next.near)

      earlier : (p : ℕ) → (p < first) ⊎ (first ≤ p) → p < first' → time_at ts p + len < f + slide
      earlier p (inl h) i = let x = loop.before p h in omega (arith, lower)
      earlier p (inr h) i = let x = early p h i in omega arith

      later : (p : ℕ) → first' ≤ p → p < length ts → f + slide ≤ time_at ts p + len
      later p h i = let x = begun (omega arith) in let y = up first' p 0 h i in omega arith

      rows : filter (λ place. is_within len (pos f -ℤ pos len) (time_at ts place)) (places (length ts)) ≡ range_with_len first (past' - first)
      rows = rows_within ts len f first past' (omega (arith, holds)) b (λ p h. let x = loop.before p h in omega (arith, lower)) (λ p h i. from_start p h (omega arith)) (λ p h i. high p i) late

      none : (w : Window ℕ) → IsOne w → w.end <ℤ pos f → w.end <ℤ pos e
      none w o h = go (cases_lt at.end e)
        where
          at : Lies w
          at = lies s w o

          go : (at.end < e) ⊎ (e ≤ at.end) → w.end <ℤ pos e
          go (inl i) = let end_is = at.end_is in omega (arith, ints)
          go (inr i) = absurd (out (cases_lt at.row first))
            where
              out : (at.row < first) ⊎ (first ≤ at.row) → ⊥
              out (inl j) = let x = loop.before at.row j in let y = at.after_start in omega arith
              out (inr j) =
                  let x = up first at.row 0 j at.row_inside in
                  let y = at.before_end in
                  let g = at.on_grid.1 in
                  let z = next.none_less at.on_grid.0 (omega (arith, g)) in
                  let end_is = at.end_is in
                  let k : at.end < f = omega (arith, ints) in
                  omega (arith, next.is, g)

      one : IsOne (window_ending f first past')
      one = record {
        starts = start_is offset len slide s f grid;
        is = whole;
        holds = λ none. nonempty (range_first first (past' - first) (omega (arith, holds))) none;
      }
        where
          whole : window_ending f first past' ≡ interval_window (time_at ts) len (places (length ts)) (pos f -ℤ pos len)
          whole = let x : pos f ≡ (pos f -ℤ pos len) +ℤ pos len = omega (arith, ints) in rw (← rows, ← x)

          nonempty : range_with_len first (past' - first) ≡ first ∷ range_with_len (first + 1) (past' - first - 1) → range_with_len first (past' - first) ≡ [] → ⊥
          nonempty x y = let z : [] ≡ first ∷ range_with_len (first + 1) (past' - first - 1) = sym y ∙ x in cc

  -- a span at the end of the spans is a window at the end of the windows
  pub pushed : (done : List Span) (span : Span) (f first past e first' : ℕ) → window_of span ≡ window_ending f first past → Loop (map window_of done ++ window_ending f first past ∷ []) e first' past → Loop (map window_of (done ++ span ∷ [])) e first' past
  pushed done span f first past e first' same l =
      let m : map window_of (done ++ span ∷ []) ≡ map window_of done ++ window_ending f first past ∷ [] = map_push window_of done span ∙ ap (λ (w : Window ℕ). map window_of done ++ w ∷ []) same in
      let P : List (Window ℕ) → Type 0 = λ ws. Loop ws e first' past in
      subst P (sym m) l
