-- Why one more state window is cut rightly.
use Rattle.std.proofs.Common.{◌≡◌, ◌≢◌, ◌⊎◌, ℕ, zero, suc, ◌+◌, ◌-◌, ◌<◌, ◌≤◌, pos, Bool, true, false, not, List, [], ◌∷◌, ◌++◌, map, filter, length, refl, sym, ap, ◌∙◌, arith, inl, inr}
use Rattle.std.proofs.lemmas.Bool.Decides.{Decides-int_eq}
use Rattle.std.proofs.lemmas.List.Elements.{filter-append}
use Rattle.std.specs.Ordering.{int_eq}
use Rattle.std.specs.List.{range_with_len}
use Rattle.td_layer.specs.declared.values.Value.{Value}
use Rattle.td_layer.specs.declared.values.Value.TheVariants.{Null, Num}
use Rattle.td_window.specs.Windows.{Window, cut, last_of, window_of_group, state_windows, isnt_null, is_same_state}
use Rattle.td_window.specs.Spans.{time_at, span_between, state_at, window_with_states, places}
use Rattle.td_window.proofs.Cuts.{IsRun, Ends, cut_run, range_at, range_first, range_last, filter_no_range, last_of-append}

-- ---- states
is_same-refl : (v : Value) → v ≢ Null → is_same_state v v ≡ true
is_same-refl Null n = absurd (n refl)
is_same-refl (Num m) n = (Decides-int_eq m m).1 refl

isnt_same : (v w : Value) → v ≢ w → is_same_state v w ≡ false
isnt_same Null w n = refl
isnt_same (Num m) Null n = refl
isnt_same (Num m) (Num k) n = other (int_eq m k) refl
  where
    other : (t : Bool) → int_eq m k ≡ t → int_eq m k ≡ false
    other true e = absurd (n (ap Num ((Decides-int_eq m k).0 e)))
    other false e = e

has_state : (v : Value) → v ≢ Null → isnt_null v ≡ true
has_state Null n = absurd (n refl)
has_state (Num m) n = refl

has_none : (v : Value) → v ≡ Null → isnt_null v ≡ false
has_none v e = rw e

module _ (ts : List ℕ) (values : List Value) where
  abbrev test : ℕ → Bool
  test place = isnt_null (state_at values place)

  abbrev apart : ℕ → ℕ → Bool
  apart a b = not (is_same_state (state_at values a) (state_at values b))

  -- the state windows of the places from one on
  abbrev pub states_from : ℕ → List (Window ℕ)
  states_from first = state_windows (time_at ts) (state_at values) (range_with_len first (length ts - first))

  -- rows without a state are left out
  pub skipped : (a b : ℕ) → a ≤ b → b ≤ length ts → ((p : ℕ) → a ≤ p → p < b → state_at values p ≡ Null) → filter test (range_with_len a (length ts - a)) ≡ filter test (range_with_len b (length ts - b))
  skipped a b p q none =
      ap (filter test) (range_at a b (length ts) p q) ∙ filter-append test (range_with_len a (b - a)) (range_with_len b (length ts - b)) ∙ ap (λ (l : List ℕ). l ++ filter test (range_with_len b (length ts - b))) (filter_no_range test a (b - a) (λ r u v. has_none (state_at values r) (none r u (omega arith))))

  -- the first window begins at the first row that has a state
  pub states_begin : (first : ℕ) → first ≤ length ts → ((p : ℕ) → p < first → state_at values p ≡ Null) → state_windows (time_at ts) (state_at values) (places (length ts)) ≡ states_from first
  states_begin first a none =
      let n : length ts ≡ length ts - 0 = omega arith in
      ap (λ (l : List ℕ). map (window_of_group (time_at ts)) (cut apart l)) (ap (λ k. filter test (range_with_len 0 k)) n ∙ skipped 0 first (omega arith) a (λ p u w. none p w))

  -- rows of one state, or of none, are a run
  same_run : (v : Value) → v ≢ Null → (x a m : ℕ) → state_at values x ≡ v → ((p : ℕ) → a ≤ p → p < a + m → (state_at values p ≡ Null) ⊎ (state_at values p ≡ v)) → IsRun apart x (filter test (range_with_len a m))
  same_run v n x a zero e each = tt
  same_run v n x a (suc m) e each = here (λ y d. same_run v n y (a + 1) m d (λ p u w. each p (omega arith) (omega arith))) (each a (omega arith) (omega arith))
    where
      here : ((y : ℕ) → state_at values y ≡ v → IsRun apart y (filter test (range_with_len (a + 1) m))) → (state_at values a ≡ Null) ⊎ (state_at values a ≡ v) → IsRun apart x (filter test (range_with_len a (suc m)))
      here rest (inl none) = let t : test a ≡ false = has_none (state_at values a) none in rw t (rest x e)
      here rest (inr same) =
          let t : test a ≡ true = rw same (has_state v n) in
          let s : apart x a ≡ false = rw (e, same, is_same-refl v n) in
          rw t (s, rest a same)

  -- the last of the rows that have a state
  last_row : (first last : ℕ) → first ≤ last → state_at values last ≢ Null → last_of first (filter test (range_with_len (first + 1) (last - first))) ≡ last
  last_row first last a n = go (last - first) refl
    where
      go : (m : ℕ) → last - first ≡ m → last_of first (filter test (range_with_len (first + 1) m)) ≡ last
      go zero e = omega arith
      go (suc m) e =
          let at : first + 1 + m ≡ last = omega arith in
          let s : suc m ≡ m + 1 = omega arith in
          let t : test last ≡ true = has_state (state_at values last) n in
          let whole : filter test (range_with_len (first + 1) (suc m)) ≡ filter test (range_with_len (first + 1) m) ++ last ∷ [] =
          ap (λ k. filter test (range_with_len (first + 1) k)) s ∙ ap (filter test) (range_last (first + 1) m) ∙ filter-append test (range_with_len (first + 1) m) ((first + 1 + m) ∷ []) ∙ ap (λ k. filter test (range_with_len (first + 1) m) ++ filter test (k ∷ [])) at ∙ rw t in
          rw whole (last_of-append first (filter test (range_with_len (first + 1) m)) last)

  -- what the next window begins with is apart
  next_ends : (x next k : ℕ) → (0 < k → (test next ≡ true) × (apart x next ≡ true)) → Ends apart x (filter test (range_with_len next k))
  next_ends x next zero h = tt
  next_ends x next (suc k) h = let t = (h (omega arith)).0 in rw t (h (omega arith)).1

  pub one_more_state : (first last next : ℕ) → first ≤ last → last < next → next ≤ length ts → state_at values first ≢ Null → ((p : ℕ) → first ≤ p → p ≤ last → (state_at values p ≡ Null) ⊎ (state_at values p ≡ state_at values first)) → state_at values last ≡ state_at values first → ((p : ℕ) → last < p → p < next → state_at values p ≡ Null) → (next < length ts → (state_at values next ≢ Null) × (state_at values next ≢ state_at values first)) → states_from first ≡ window_with_states values (span_between ts first last) ∷ states_from next
  one_more_state first last next a b c found same ends between after = ap (map (window_of_group (time_at ts))) (ap (cut apart) divided ∙ first_group) ∙ ap (λ (w : Window ℕ). w ∷ states_from next) window
    where
      v : Value
      v = state_at values first

      others : List ℕ
      others = filter test (range_with_len (first + 1) (last - first))

      rest : List ℕ
      rest = filter test (range_with_len next (length ts - next))

      whole : filter test (range_with_len first (last - first + 1)) ≡ first ∷ others
      whole =
          let t : test first ≡ true = has_state v found in
          let m : last - first + 1 - 1 ≡ last - first = omega arith in
          ap (filter test) (range_first first (last - first + 1) (omega arith)) ∙ rw (t, m)

      divided : filter test (range_with_len first (length ts - first)) ≡ first ∷ (others ++ rest)
      divided =
          let m : last + 1 - first ≡ last - first + 1 = omega arith in
          ap (filter test) (range_at first (last + 1) (length ts) (omega arith) (omega arith)) ∙ filter-append test (range_with_len first (last + 1 - first)) (range_with_len (last + 1) (length ts - (last + 1))) ∙ ap (λ k. filter test (range_with_len first k) ++ filter test (range_with_len (last + 1) (length ts - (last + 1)))) m ∙ ap (λ (l : List ℕ). l ++ filter test (range_with_len (last + 1) (length ts - (last + 1)))) whole ∙ ap (λ (l : List ℕ). first ∷ (others ++ l)) (skipped (last + 1) next (omega arith) c (λ p u w. between p (omega arith) w))

      last_found : state_at values last ≢ Null
      last_found e = found (sym ends ∙ e)

      last_is : last_of first others ≡ last
      last_is = last_row first last a last_found

      run : IsRun apart first others
      run = same_run v found first (first + 1) (last - first) refl (λ p u w. same p (omega arith) (omega arith))

      next_apart : 0 < length ts - next → (test next ≡ true) × (apart (last_of first others) next ≡ true)
      next_apart h =
          let n = after (omega arith) in
          let t : is_same_state v (state_at values next) ≡ false = isnt_same v (state_at values next) (λ e. n.1 (sym e)) in
          (has_state (state_at values next) n.0, rw (last_is, ends, t))

      first_group : cut apart (first ∷ (others ++ rest)) ≡ (first, others) ∷ cut apart rest
      first_group = cut_run apart first others rest run (next_ends (last_of first others) next (length ts - next) next_apart)

      window : window_of_group (time_at ts) (first, others) ≡ window_with_states values (span_between ts first last)
      window = rw last_is (ap (λ (l : List ℕ). record { start = pos (time_at ts first); end = pos (time_at ts last); rows = l }) (sym whole))
