-- The windows of a list of any rows, by those of the places of its timestamps.
use Rattle.std.proofs.Common.{◌≡◌, ◌≢◌, ℕ, zero, suc, ◌+◌, ◌-◌, ◌<◌, ◌≤◌, ℤ, ◌<ℤ◌, Bool, true, false, cond, not, ltb, List, [], ◌∷◌, map, filter, length, get_or, slice_get, take, drop, refl, sym, ap, ◌∙◌, subst, arith, Contains, Option, Some, None}
use mathlib.Core.Path.{fun_ext}
use Rattle.std.proofs.lemmas.List.{take_all, length-map, get_or-map}
use Rattle.std.specs.List.{range_with_len, AllByRecursion}
use Rattle.td_layer.specs.declared.values.Value.{Value}
use Rattle.td_layer.specs.declared.values.Value.TheVariants.{Null}
use Rattle.td_window.specs.Windows.{Window, cut, led_by, last_of, window_of_group, session_windows, state_windows, isnt_null, is_same_state, is_within, interval_window, StartsRise, IsIntervalWindow, AreIntervalWindows}
use Rattle.td_window.specs.Spans.{places, time_at, state_at, window_of, window_with_states, window_over, window_over_states, IsInside}
use Rattle.td_window.specs.declared.span.Span.{Span}

-- ---- windows of mapped rows
abbrev pub mapped : {A B : Type 0} → (A → B) → Window A → Window B
mapped g w = record { start = w.start; end = w.end; rows = map g w.rows }

abbrev mapped_group : {A B : Type 0} → (A → B) → A × List A → B × List B
mapped_group g (x, xs) = (g x, map g xs)

module _ {A B : Type 0} (g : A → B) where
  filter-map : (p : B → Bool) (l : List A) → filter p (map g l) ≡ map g (filter (λ a. p (g a)) l)
  filter-map p [] = refl
  filter-map p (x ∷ l) =
      let rest = filter-map p l in
      elim (p (g x)) as (λ t. cond t (g x ∷ filter p (map g l)) (filter p (map g l)) ≡ map g (cond t (x ∷ filter (λ a. p (g a)) l) (filter (λ a. p (g a)) l))) [ true ↦ ap (λ k. g x ∷ k) rest | false ↦ rest ]

  led_by-map : (apart : B → B → Bool) (x : A) (groups : List (A × List A)) → led_by apart (g x) (map (mapped_group g) groups) ≡ map (mapped_group g) (led_by (λ a b. apart (g a) (g b)) x groups)
  led_by-map apart x [] = refl
  led_by-map apart x ((y, ys) ∷ groups) = go (apart (g x) (g y))
    where
      go : (t : Bool) → cond t ((g x, []) ∷ (g y, map g ys) ∷ map (mapped_group g) groups) ((g x, g y ∷ map g ys) ∷ map (mapped_group g) groups) ≡ map (mapped_group g) (cond t ((x, []) ∷ (y, ys) ∷ groups) ((x, y ∷ ys) ∷ groups))
      go true = refl
      go false = refl

  cut-map : (apart : B → B → Bool) (l : List A) → cut apart (map g l) ≡ map (mapped_group g) (cut (λ a b. apart (g a) (g b)) l)
  cut-map apart [] = refl
  cut-map apart (x ∷ l) = ap (led_by apart (g x)) (cut-map apart l) ∙ led_by-map apart x (cut (λ a b. apart (g a) (g b)) l)

  last_of-map : (x : A) (xs : List A) → last_of (g x) (map g xs) ≡ g (last_of x xs)
  last_of-map x [] = refl
  last_of-map x (y ∷ xs) = last_of-map y xs

  windows_of_groups-map : (time : B → ℕ) (groups : List (A × List A)) → map (window_of_group time) (map (mapped_group g) groups) ≡ map (mapped g) (map (window_of_group (λ a. time (g a))) groups)
  windows_of_groups-map time [] = refl
  windows_of_groups-map time ((x, xs) ∷ groups) =
      let first : window_of_group time (g x, map g xs) ≡ mapped g (window_of_group (λ a. time (g a)) (x, xs)) = rw (last_of-map x xs) in
      ap (λ (w : Window B). w ∷ map (window_of_group time) (map (mapped_group g) groups)) first ∙ ap (λ (ws : List (Window B)). mapped g (window_of_group (λ a. time (g a)) (x, xs)) ∷ ws) (windows_of_groups-map time groups)

  pub session_windows-map : (time : B → ℕ) (tolerance : ℕ) (l : List A) → session_windows time tolerance (map g l) ≡ map (mapped g) (session_windows (λ a. time (g a)) tolerance l)
  session_windows-map time tolerance l =
      ap (map (window_of_group time)) (cut-map (λ a b. ltb tolerance (time b - time a)) l) ∙ windows_of_groups-map time (cut (λ a b. ltb tolerance (time (g b) - time (g a))) l)

  pub state_windows-map : (time : B → ℕ) (state : B → Value) (l : List A) → state_windows time state (map g l) ≡ map (mapped g) (state_windows (λ a. time (g a)) (λ a. state (g a)) l)
  state_windows-map time state l =
      ap (λ k. map (window_of_group time) (cut (λ a b. not (is_same_state (state a) (state b))) k)) (filter-map (λ row. isnt_null (state row)) l) ∙ ap (map (window_of_group time)) (cut-map (λ a b. not (is_same_state (state a) (state b))) (filter (λ row. isnt_null (state (g row))) l)) ∙ windows_of_groups-map time (cut (λ a b. not (is_same_state (state (g a)) (state (g b)))) (filter (λ row. isnt_null (state (g row))) l))

  interval_window-map : (time : B → ℕ) (len : ℕ) (l : List A) (k : ℤ) → interval_window time len (map g l) k ≡ mapped g (interval_window (λ a. time (g a)) len l k)
  interval_window-map time len l k = rw (filter-map (λ row. is_within len k (time row)) l)

  map_none : (l : List A) → l ≢ [] → map g l ≢ []
  map_none [] h e = h refl
  map_none (x ∷ l) h e = cc

  none_map : (l : List A) → map g l ≢ [] → l ≢ []
  none_map l h e = h (ap (map g) e)

  -- a window of the rows, mapped
  IsIntervalWindow-map : (time : B → ℕ) (len offset slide : ℕ) (l : List A) (w : Window A) → IsIntervalWindow (λ a. time (g a)) len offset slide l w → IsIntervalWindow time len offset slide (map g l) (mapped g w)
  IsIntervalWindow-map time len offset slide l w o = record {
    starts = o.starts;
    is = ap (mapped g) o.is ∙ sym (interval_window-map time len l w.start);
    holds = map_none w.rows o.holds;
  }

  each-map : (time : B → ℕ) (len offset slide : ℕ) (l : List A) (ws : List (Window A)) → AllByRecursion (IsIntervalWindow (λ a. time (g a)) len offset slide l) ws → AllByRecursion (IsIntervalWindow time len offset slide (map g l)) (map (mapped g) ws)
  each-map time len offset slide l [] h = tt
  each-map time len offset slide l (w ∷ ws) h = (IsIntervalWindow-map time len offset slide l w h.0, each-map time len offset slide l ws h.1)

  later-map : (k : ℤ) (ws : List (Window A)) → AllByRecursion (λ v. k <ℤ v.start) ws → AllByRecursion (λ v. k <ℤ v.start) (map (mapped g) ws)
  later-map k [] h = tt
  later-map k (w ∷ ws) h = (h.0, later-map k ws h.1)

  StartsRise-map : (ws : List (Window A)) → StartsRise ws → StartsRise (map (mapped g) ws)
  StartsRise-map [] h = tt
  StartsRise-map (w ∷ ws) h = (later-map w.start ws h.0, StartsRise-map ws h.1)

  Contains-mapped : (ws : List (Window A)) (w : Window A) → Contains ws w → Contains (map (mapped g) ws) (mapped g w)
  Contains-mapped ws w h = (h.0, rw (length-map ws (mapped g)) h.1, get_or-map (mapped g) ws h.0 w (mapped g w) h.1 ∙ ap (mapped g) h.2)

  pub AreIntervalWindows-map : (time : B → ℕ) (len offset slide : ℕ) (l : List A) (ws : List (Window A)) → AreIntervalWindows (λ a. time (g a)) len offset slide l ws → AreIntervalWindows time len offset slide (map g l) (map (mapped g) ws)
  AreIntervalWindows-map time len offset slide l ws h = record {
    each = each-map time len offset slide l ws h.each;
    all = every;
    by_start = StartsRise-map ws h.by_start;
  }
    where
      every : (w : Window B) → IsIntervalWindow time len offset slide (map g l) w → Contains (map (mapped g) ws) w
      every w o =
          let v : Window A = interval_window (λ a. time (g a)) len l w.start in
          let same : w ≡ mapped g v = o.is ∙ interval_window-map time len l w.start in
          let some : map g v.rows ≢ [] = λ e. o.holds (ap (λ (u : Window B). u.rows) same ∙ e) in
          let found = h.all v (record { starts = o.starts; is = refl; holds = none_map v.rows some }) in
          subst (Contains (map (mapped g) ws)) (sym same) (Contains-mapped ws v found)

-- ---- rows behind a `Some`
module _ {A : Type 0} where
  -- the rows of a list of options
  somes : List (Option A) → List A
  somes [] = []
  somes (None ∷ l) = somes l
  somes (Some x ∷ l) = x ∷ somes l

  abbrev behind : Window (Option A) → Window A
  behind w = record { start = w.start; end = w.end; rows = somes w.rows }

  somes-map : (l : List A) → somes (map Some l) ≡ l
  unfolding somes
  somes-map [] = refl
  somes-map (x ∷ l) = ap (λ k. x ∷ k) (somes-map l)

  behind-mapped : (w : Window A) → behind (mapped Some w) ≡ w
  behind-mapped w = ap (λ (l : List A). record { start = w.start; end = w.end; rows = l }) (somes-map w.rows)

  all_behind : (ws : List (Window A)) → map behind (map (mapped Some) ws) ≡ ws
  all_behind [] = refl
  all_behind (w ∷ ws) = ap (λ (v : Window A). v ∷ map behind (map (mapped Some) ws)) (behind-mapped w) ∙ ap (λ vs. w ∷ vs) (all_behind ws)

  one_behind : (v w : Window A) → mapped Some v ≡ mapped Some w → v ≡ w
  one_behind v w e = sym (behind-mapped v) ∙ ap behind e ∙ behind-mapped w

  -- what the timestamp and the state of none are
  abbrev time_or_0 : (A → ℕ) → Option A → ℕ
  time_or_0 time None = 0
  time_or_0 time (Some row) = time row

  abbrev state_or_null : (A → Value) → Option A → Value
  state_or_null state None = Null
  state_or_null state (Some row) = state row

  each_behind : (time : A → ℕ) (len offset slide : ℕ) (rows : List A) (ws : List (Window A)) → AllByRecursion (IsIntervalWindow (time_or_0 time) len offset slide (map Some rows)) (map (mapped Some) ws) → AllByRecursion (IsIntervalWindow time len offset slide rows) ws
  each_behind time len offset slide rows [] h = tt
  each_behind time len offset slide rows (w ∷ ws) h = (
    record {
      starts = h.0.starts;
      is = one_behind w (interval_window time len rows w.start) (h.0.is ∙ interval_window-map Some (time_or_0 time) len rows w.start);
      holds = none_map Some w.rows h.0.holds;
    },
    each_behind time len offset slide rows ws h.1,
  )

  later_behind : (k : ℤ) (ws : List (Window A)) → AllByRecursion (λ v. k <ℤ v.start) (map (mapped Some) ws) → AllByRecursion (λ v. k <ℤ v.start) ws
  later_behind k [] h = tt
  later_behind k (w ∷ ws) h = (h.0, later_behind k ws h.1)

  rise_behind : (ws : List (Window A)) → StartsRise (map (mapped Some) ws) → StartsRise ws
  rise_behind [] h = tt
  rise_behind (w ∷ ws) h = (later_behind w.start ws h.0, rise_behind ws h.1)

  intervals_behind : (time : A → ℕ) (len offset slide : ℕ) (rows : List A) (ws : List (Window A)) → AreIntervalWindows (time_or_0 time) len offset slide (map Some rows) (map (mapped Some) ws) → AreIntervalWindows time len offset slide rows ws
  intervals_behind time len offset slide rows ws h = record {
    each = each_behind time len offset slide rows ws h.each;
    all = every;
    by_start = rise_behind ws h.by_start;
  }
    where
      every : (w : Window A) → IsIntervalWindow time len offset slide rows w → Contains ws w
      every w o =
          let found = h.all (mapped Some w) (IsIntervalWindow-map Some (time_or_0 time) len offset slide rows w o) in
          let within : found.0 < length ws = subst (λ n. found.0 < n) (length-map ws (mapped Some)) found.1 in
          (found.0, within, one_behind (get_or ws found.0 w) w (sym (get_or-map (mapped Some) ws found.0 w (mapped Some w) within) ∙ found.2))

-- ---- rows at their places
map-range_suc : {B : Type 0} (g : ℕ → B) (a m : ℕ) → map g (range_with_len (suc a) m) ≡ map (λ p. g (suc p)) (range_with_len a m)
map-range_suc g a zero = refl
map-range_suc {B} g a (suc m) =
    let e : suc a + 1 ≡ suc (a + 1) = omega arith in
    ap (λ (l : List B). g (suc a) ∷ l) (ap (λ k. map g (range_with_len k m)) e ∙ map-range_suc g (a + 1) m)

module _ {A : Type 0} where
  rows_at : (rows : List A) (a m : ℕ) → a + m ≤ length rows → map (slice_get rows) (range_with_len a m) ≡ map Some (take m (drop a rows))
  rows_at [] a zero h = refl
  rows_at [] a (suc m) h = absurd (omega arith)
  rows_at (x ∷ rows) zero zero h = refl
  rows_at (x ∷ rows) zero (suc m) h = ap (λ l. Some x ∷ l) (map-range_suc (slice_get (x ∷ rows)) 0 m ∙ rows_at rows 0 m (omega arith))
  rows_at (x ∷ rows) (suc a) m h = map-range_suc (slice_get (x ∷ rows)) a m ∙ rows_at rows a m (omega arith)

  time_at-map : (time : A → ℕ) (rows : List A) (p : ℕ) → time_at (map time rows) p ≡ time_or_0 time (slice_get rows p)
  time_at-map time [] p = refl
  time_at-map time (x ∷ rows) zero = refl
  time_at-map time (x ∷ rows) (suc p) = time_at-map time rows p

  state_at-map : (state : A → Value) (rows : List A) (p : ℕ) → state_at (map state rows) p ≡ state_or_null state (slice_get rows p)
  state_at-map state [] p = refl
  state_at-map state (x ∷ rows) zero = refl
  state_at-map state (x ∷ rows) (suc p) = state_at-map state rows p

  all_rows : (rows : List A) → map (slice_get rows) (places (length rows)) ≡ map Some rows
  all_rows rows = rows_at rows 0 (length rows) (omega arith) ∙ ap (map Some) (take_all (length rows) rows (omega arith))

  -- the windows of spans, over the rows
  spans_over : (rows : List A) (spans : List Span) → AllByRecursion (IsInside (length rows)) spans → map (mapped (slice_get rows)) (map window_of spans) ≡ map (mapped Some) (map (window_over rows) spans)
  spans_over rows [] h = refl
  spans_over rows (s ∷ spans) h =
      ap (λ (l : List (Option A)). record { start = s.start; end = s.end; rows = l } ∷ map (mapped (slice_get rows)) (map window_of spans)) (rows_at rows s.first s.rows h.0.1) ∙ ap (λ (ws : List (Window (Option A))). mapped Some (window_over rows s) ∷ ws) (spans_over rows spans h.1)

  pub intervals_over : (time : A → ℕ) (len offset slide : ℕ) (rows : List A) (spans : List Span) → AllByRecursion (IsInside (length rows)) spans → AreIntervalWindows (time_at (map time rows)) len offset slide (places (length rows)) (map window_of spans) → AreIntervalWindows time len offset slide rows (map (window_over rows) spans)
  intervals_over time len offset slide rows spans inside h =
      let f : ℕ → Option A = slice_get rows in
      let t : time_at (map time rows) ≡ (λ p. time_or_0 time (f p)) = fun_ext (time_at-map time rows) in
      let P : (ℕ → ℕ) → Type 0 = λ time'. AreIntervalWindows time' len offset slide (places (length rows)) (map window_of spans) in
      let Q : List (Option A) → Type 0 = λ l. AreIntervalWindows (time_or_0 time) len offset slide l (map (mapped f) (map window_of spans)) in
      let R : List (Window (Option A)) → Type 0 = λ ws. AreIntervalWindows (time_or_0 time) len offset slide (map Some rows) ws in
      let made = AreIntervalWindows-map f (time_or_0 time) len offset slide (places (length rows)) (map window_of spans) (subst P t h) in
      intervals_behind time len offset slide rows (map (window_over rows) spans) (subst R (spans_over rows spans inside) (subst Q (all_rows rows) made))

  pub sessions_over : (time : A → ℕ) (tolerance : ℕ) (rows : List A) (spans : List Span) → AllByRecursion (IsInside (length rows)) spans → map window_of spans ≡ session_windows (time_at (map time rows)) tolerance (places (length rows)) → map (window_over rows) spans ≡ session_windows time tolerance rows
  sessions_over time tolerance rows spans inside h =
      let f : ℕ → Option A = slice_get rows in
      let t : time_at (map time rows) ≡ (λ p. time_or_0 time (f p)) = fun_ext (time_at-map time rows) in
      let made : map (mapped f) (map window_of spans) ≡ map (mapped Some) (session_windows time tolerance rows) =
      ap (map (mapped f)) (h ∙ ap (λ time'. session_windows time' tolerance (places (length rows))) t) ∙ sym (session_windows-map f (time_or_0 time) tolerance (places (length rows))) ∙ ap (session_windows (time_or_0 time) tolerance) (all_rows rows) ∙ session_windows-map Some (time_or_0 time) tolerance rows in
      sym (all_behind (map (window_over rows) spans)) ∙ ap (map behind) (sym (spans_over rows spans inside) ∙ made) ∙ all_behind (session_windows time tolerance rows)

  -- the same for state windows
  spans_over_states : (state : A → Value) (rows : List A) (spans : List Span) → AllByRecursion (IsInside (length rows)) spans → map (mapped (slice_get rows)) (map (window_with_states (map state rows)) spans) ≡ map (mapped Some) (map (window_over_states state rows) spans)
  spans_over_states state rows [] h = refl
  spans_over_states state rows (s ∷ spans) h =
      let f : ℕ → Option A = slice_get rows in
      let v : state_at (map state rows) ≡ (λ p. state_or_null state (f p)) = fun_ext (state_at-map state rows) in
      let part : map f (filter (λ p. isnt_null (state_at (map state rows) p)) (range_with_len s.first s.rows)) ≡ map Some (filter (λ row. isnt_null (state row)) (take s.rows (drop s.first rows))) =
      ap (λ (state' : ℕ → Value). map f (filter (λ p. isnt_null (state' p)) (range_with_len s.first s.rows))) v ∙ sym (filter-map f (λ row. isnt_null (state_or_null state row)) (range_with_len s.first s.rows)) ∙ ap (filter (λ row. isnt_null (state_or_null state row))) (rows_at rows s.first s.rows h.0.1) ∙ filter-map Some (λ row. isnt_null (state_or_null state row)) (take s.rows (drop s.first rows)) in
      ap (λ (l : List (Option A)). record { start = s.start; end = s.end; rows = l } ∷ map (mapped f) (map (window_with_states (map state rows)) spans)) part ∙ ap (λ (ws : List (Window (Option A))). mapped Some (window_over_states state rows s) ∷ ws) (spans_over_states state rows spans h.1)

  pub states_over : (time : A → ℕ) (state : A → Value) (rows : List A) (spans : List Span) → AllByRecursion (IsInside (length rows)) spans → map (window_with_states (map state rows)) spans ≡ state_windows (time_at (map time rows)) (state_at (map state rows)) (places (length rows)) → map (window_over_states state rows) spans ≡ state_windows time state rows
  states_over time state rows spans inside h =
      let f : ℕ → Option A = slice_get rows in
      let t : time_at (map time rows) ≡ (λ p. time_or_0 time (f p)) = fun_ext (time_at-map time rows) in
      let v : state_at (map state rows) ≡ (λ p. state_or_null state (f p)) = fun_ext (state_at-map state rows) in
      let made : map (mapped f) (map (window_with_states (map state rows)) spans) ≡ map (mapped Some) (state_windows time state rows) =
      ap (map (mapped f)) (h ∙ ap (λ time'. state_windows time' (state_at (map state rows)) (places (length rows))) t ∙ ap (λ state'. state_windows (λ p. time_or_0 time (f p)) state' (places (length rows))) v) ∙ sym (state_windows-map f (time_or_0 time) (state_or_null state) (places (length rows))) ∙ ap (state_windows (time_or_0 time) (state_or_null state)) (all_rows rows) ∙ state_windows-map Some (time_or_0 time) (state_or_null state) rows in
      sym (all_behind (map (window_over_states state rows) spans)) ∙ ap (map behind) (sym (spans_over_states state rows spans inside) ∙ made) ∙ all_behind (state_windows time state rows)
