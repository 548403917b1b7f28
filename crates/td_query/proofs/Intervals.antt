-- The interval windows that are listed are all that hold a row, by their starts.
use Rattle.std.proofs.Common.{◌≡◌, ◌≢◌, ◌⊎◌, ℕ, zero, suc, ◌+◌, ◌-◌, ◌*◌, ◌/◌, ◌%◌, ◌<◌, ◌≤◌, ℤ, pos, negsuc, ◌+ℤ◌, ◌-ℤ◌, ◌≤ℤ◌, ◌<ℤ◌, Bool, true, false, not, ◌&&◌, ◌==◌, int_le, int_lt, cond, List, [], ◌∷◌, map, filter, length, Contains, inl, inr, refl, sym, ap, ◌∙◌, subst, arith}
use Rattle.std.proofs.lemmas.Int.{ints}
use Rattle.std.proofs.lemmas.Bool.{cases_lt}
use Rattle.std.proofs.lemmas.Bool.Decides.{nat_tests}
use Rattle.std.proofs.Math.Nat.{mul-le-mul_right, add-mul, mul_comm}
use Rattle.std.specs.List.{range_with_len, AllByRecursion}
use Rattle.td_window.specs.Spans.{time_of}
use Rattle.td_window.specs.Windows.{Window, is_within, interval_window, IsStart, StartsRise, IsIntervalWindow, AreIntervalWindows}
use Rattle.td_verdict.specs.Windowed.{Keyed, first_time, last_time, start_of_turn, holds_row, interval_windows}

-- ---- what a list has
here : {X : Type 0} (x : X) (xs : List X) → Contains (x ∷ xs) x
here x xs = (zero, omega arith, refl)

behind : {X : Type 0} (y : X) (xs : List X) (x : X) → Contains xs x → Contains (y ∷ xs) x
behind y xs x (k, h, e) = (suc k, omega (arith, h), e)

-- ---- a row that passes a test of its timestamp, and where it lies
low : (t : ℕ) (es : List Keyed) → first_time t es ≤ t
low t [] = omega arith
low t (e ∷ es) = let rest = low t es in omega arith

high : (t : ℕ) (es : List Keyed) → t ≤ last_time t es
high t [] = omega arith
high t (e ∷ es) = let rest = high t es in omega arith

record Passing (test : ℕ → Bool) (first last : ℕ) : Type 0 where
  at : ℕ
  from : first ≤ at
  upto : at ≤ last
  passes : test at ≡ true

passing : (test : ℕ → Bool) (t : ℕ) (es : List Keyed) → filter (λ (e : Keyed). test (time_of e)) es ≢ [] → Passing test (first_time t es) (last_time t es)
passing test t [] h = absurd (h refl)
passing test t (e ∷ es) h = go (passing test t es) (test e.0.ts) refl
  where
    go : (filter (λ (f : Keyed). test (time_of f)) es ≢ [] → Passing test (first_time t es) (last_time t es)) → (b : Bool) → test e.0.ts ≡ b → Passing test (first_time t (e ∷ es)) (last_time t (e ∷ es))
    go later true is = record { at = e.0.ts; from = omega arith; upto = omega arith; passes = is }
    go later false is =
        let rest = later (λ none. h (ap (λ b. cond b (e ∷ filter (λ (f : Keyed). test (time_of f)) es) (filter (λ (f : Keyed). test (time_of f)) es)) is ∙ none)) in
        let from = rest.from in
        let upto = rest.upto in
        record { at = rest.at; from = omega arith; upto = omega arith; passes = rest.passes }

passing_all : (test : ℕ → Bool) (e : Keyed) (es : List Keyed) → filter (λ (f : Keyed). test (time_of f)) (e ∷ es) ≢ [] → Passing test (first_time e.0.ts es) (last_time e.0.ts es)
passing_all test e es h = go (test e.0.ts) refl
  where
    go : (b : Bool) → test e.0.ts ≡ b → Passing test (first_time e.0.ts es) (last_time e.0.ts es)
    go true is = record { at = e.0.ts; from = low e.0.ts es; upto = high e.0.ts es; passes = is }
    go false is = passing test e.0.ts es (λ none. h (ap (λ b. cond b (e ∷ filter (λ (f : Keyed). test (time_of f)) es) (filter (λ (f : Keyed). test (time_of f)) es)) is ∙ none))

-- ---- what lies within a window
both_out : (a b : Bool) → (a && b) ≡ true → (a ≡ true) × (b ≡ true)
both_out true b e = (refl, e)
both_out false b e = cc

pub within_out : (len : ℕ) (k : ℤ) (t : ℕ) → is_within len k t ≡ true → (k ≤ℤ pos t) × (pos t <ℤ (k +ℤ pos len))
within_out len k t e =
    let b = both_out (int_le k (pos t)) (int_lt (pos t) (k +ℤ pos len)) e in
    let l = b.0 in
    let r = b.1 in
    (omega (arith, ints), omega (arith, ints))

products : (a b c s : ℕ) → a + b ≡ c → a * s + b * s ≡ c * s
products a b c s e = sym (add-mul a b s) ∙ ap (λ k. k * s) e

-- ---- where windows end
module _ (offset len slide : ℕ) (some : 0 < slide) where
  abbrev phase : ℕ
  phase = (offset + len) % slide

  abbrev turns : ℕ
  turns = (offset + len) / slide

  pub start_is : (q : ℕ) → IsStart offset slide (pos (phase + q * slide) -ℤ pos len)
  start_is q = go (cases_lt q turns)
    where
      go : (q < turns) ⊎ (turns ≤ q) → IsStart offset slide (pos (phase + q * slide) -ℤ pos len)
      go (inl h) =
          let m : (turns - q) * slide + q * slide ≡ turns * slide = products (turns - q) q turns slide (omega arith) in
          let k : suc (turns - q - 1) ≡ turns - q = omega arith in
          (negsuc (turns - q - 1), rw k (omega (arith, ints, m)))
      go (inr h) =
          let m : (q - turns) * slide + turns * slide ≡ q * slide = products (q - turns) turns q slide (omega arith) in
          (pos (q - turns), omega (arith, ints, m))

  pub end_is : (k : ℤ) (t : ℕ) → IsStart offset slide k → pos t <ℤ (k +ℤ pos len) → (q : ℕ) × (k +ℤ pos len ≡ pos (phase + q * slide))
  end_is k t (pos j, d) h = (turns + j, omega (arith, ints, d))
  end_is k t (negsuc j, d) h = go (cases_lt j turns)
    where
      go : (j < turns) ⊎ (turns ≤ j) → (q : ℕ) × (k +ℤ pos len ≡ pos (phase + q * slide))
      go (inl l) =
          let m : (turns - suc j) * slide + suc j * slide ≡ turns * slide = products (turns - suc j) (suc j) turns slide (omega arith) in
          (turns - suc j, omega (arith, ints, d, m))
      go (inr l) =
          let m : (turns + 1) * slide ≤ suc j * slide = mul-le-mul_right slide (omega arith) in
          absurd (omega (arith, ints, d, m))

  -- a turn whose window ends after a timestamp, and one whose end is at or before one
  turn_from : (first q : ℕ) → first < phase + q * slide → first / slide ≤ q
  turn_from first q h = go (cases_lt q (first / slide))
    where
      go : (q < first / slide) ⊎ (first / slide ≤ q) → first / slide ≤ q
      go (inl l) =
          let m : (q + 1) * slide ≤ (first / slide) * slide = mul-le-mul_right slide (omega arith) in
          let n : (first / slide) * slide ≡ slide * (first / slide) = mul_comm (first / slide) slide in
          let p : (q + 1) * slide ≡ q * slide + 1 * slide = sym (products q 1 (q + 1) slide refl) in
          let f : phase < slide = omega arith in
          absurd (omega (arith, m, n, p))
      go (inr l) = l

  turn_upto : (last q : ℕ) → phase + q * slide ≤ last → q ≤ last / slide
  turn_upto last q h = go (cases_lt (last / slide) q)
    where
      go : (last / slide < q) ⊎ (q ≤ last / slide) → q ≤ last / slide
      go (inl l) =
          let m : (last / slide + 1) * slide ≤ q * slide = mul-le-mul_right slide (omega arith) in
          let n : (last / slide) * slide ≡ slide * (last / slide) = mul_comm (last / slide) slide in
          let p : (last / slide + 1) * slide ≡ (last / slide) * slide + 1 * slide = sym (products (last / slide) 1 (last / slide + 1) slide refl) in
          let f : last % slide < slide = omega arith in
          absurd (omega (arith, m, n, p))
      go (inr l) = l

  -- ---- the windows of turns
  module _ (all : List Keyed) where
    abbrev turn : ℕ → Window Keyed
    turn q = interval_window time_of len all (start_of_turn len offset slide q)

    abbrev One : Window Keyed → Type 0
    One = IsIntervalWindow time_of len offset slide all

    abbrev kept : ℕ → ℕ → List (Window Keyed)
    kept a m = filter holds_row (map turn (range_with_len a m))

    each_at : (a m : ℕ) (b : Bool) → holds_row (turn a) ≡ b → AllByRecursion One (kept (a + 1) m) → AllByRecursion One (cond b (turn a ∷ kept (a + 1) m) (kept (a + 1) m))
    each_at a m true is rest = (record { starts = start_is a; is = refl; holds = λ none. absurd (has none) }, rest)
      where
        has : (turn a).rows ≡ [] → ⊥
        has none = let no : holds_row (turn a) ≡ false = ap (λ (rows : List Keyed). not (length rows == 0)) none in let e : true ≡ false = sym is ∙ no in absurd (cc)
    each_at a m false is rest = rest

    each : (a m : ℕ) → AllByRecursion One (kept a m)
    each a zero = tt
    each a (suc m) = each_at a m (holds_row (turn a)) refl (each (a + 1) m)

    starts_later : (b a : ℕ) → b < a → (turn b).start <ℤ (turn a).start
    starts_later b a h =
        let m : (b + 1) * slide ≤ a * slide = mul-le-mul_right slide (omega arith) in
        let p : (b + 1) * slide ≡ b * slide + 1 * slide = sym (products b 1 (b + 1) slide refl) in
        omega (arith, ints, m, p)

    later_at : (b a m : ℕ) (t : Bool) → b < a → AllByRecursion (λ v. (turn b).start <ℤ v.start) (kept (a + 1) m) → AllByRecursion (λ v. (turn b).start <ℤ v.start) (cond t (turn a ∷ kept (a + 1) m) (kept (a + 1) m))
    later_at b a m true h rest = (starts_later b a h, rest)
    later_at b a m false h rest = rest

    later : (b a m : ℕ) → b < a → AllByRecursion (λ v. (turn b).start <ℤ v.start) (kept a m)
    later b a zero h = tt
    later b a (suc m) h = later_at b a m (holds_row (turn a)) h (later b (a + 1) m (omega arith))

    rises_at : (a m : ℕ) (t : Bool) → StartsRise (kept (a + 1) m) → StartsRise (cond t (turn a ∷ kept (a + 1) m) (kept (a + 1) m))
    rises_at a m true rest = (later a (a + 1) m (omega arith), rest)
    rises_at a m false rest = rest

    rises : (a m : ℕ) → StartsRise (kept a m)
    rises a zero = tt
    rises a (suc m) = rises_at a m (holds_row (turn a)) (rises (a + 1) m)

    found_here : (a m : ℕ) → holds_row (turn a) ≡ true → Contains (kept a (suc m)) (turn a)
    found_here a m is = subst (λ (b : Bool). Contains (cond b (turn a ∷ kept (a + 1) m) (kept (a + 1) m)) (turn a)) (sym is) (here (turn a) (kept (a + 1) m))

    found_behind : (a m : ℕ) (w : Window Keyed) (b : Bool) → Contains (kept (a + 1) m) w → Contains (cond b (turn a ∷ kept (a + 1) m) (kept (a + 1) m)) w
    found_behind a m w true c = behind (turn a) (kept (a + 1) m) w c
    found_behind a m w false c = c

    found : (a m q : ℕ) → a ≤ q → q < a + m → holds_row (turn q) ≡ true → Contains (kept a m) (turn q)
    found a zero q l h is = absurd (omega arith)
    found a (suc m) q l h is = go (λ b. found (a + 1) m q (omega (arith, b)) (omega arith) is) (cases_lt a q)
      where
        go : (a < q → Contains (kept (a + 1) m) (turn q)) → (a < q) ⊎ (q ≤ a) → Contains (kept a (suc m)) (turn q)
        go later (inl b) = found_behind a m (turn q) (holds_row (turn a)) (later b)
        go later (inr b) = let e : a ≡ q = omega arith in subst (λ (p : ℕ). Contains (kept a (suc m)) (turn p)) e (found_here a m (ap (λ (p : ℕ). holds_row (turn p)) e ∙ is))

  holds_some : (rows : List Keyed) → rows ≢ [] → not (length rows == 0) ≡ true
  holds_some [] h = absurd (h refl)
  holds_some (e ∷ es) h = grind (arith, nat_tests)

  every : (e : Keyed) (es : List Keyed) (w : Window Keyed) → IsIntervalWindow time_of len offset slide (e ∷ es) w → Contains (interval_windows len offset slide (e ∷ es)) w
  every e es w one =
      let rows : w.rows ≡ filter (λ (f : Keyed). is_within len w.start (time_of f)) (e ∷ es) = ap (λ (v : Window Keyed). v.rows) one.is in
      let row = passing_all (is_within len w.start) e es (λ none. one.holds (rows ∙ none)) in
      let inside = within_out len w.start row.at row.passes in
      let end = end_is w.start row.at one.starts inside.1 in
      let q = end.0 in
      let ends : w.start +ℤ pos len ≡ pos (phase + q * slide) = end.1 in
      let after = inside.0 in
      let before = inside.1 in
      let from = row.from in
      let upto = row.upto in
      let past : first_time e.0.ts es < phase + q * slide = omega (arith, ints) in
      let near : phase + q * slide ≤ last_time e.0.ts es + len = omega (arith, ints) in
      let a : first_time e.0.ts es / slide ≤ q = turn_from (first_time e.0.ts es) q past in
      let b : q ≤ (last_time e.0.ts es + len) / slide = turn_upto (last_time e.0.ts es + len) q near in
      let start : w.start ≡ start_of_turn len offset slide q = omega (arith, ints) in
      let same : w ≡ turn (e ∷ es) q = one.is ∙ ap (interval_window time_of len (e ∷ es)) start in
      let holds : holds_row (turn (e ∷ es) q) ≡ true = ap holds_row (sym same) ∙ holds_some w.rows one.holds in
      subst (λ (v : Window Keyed). Contains (interval_windows len offset slide (e ∷ es)) v) (sym same)
      (found (e ∷ es) (first_time e.0.ts es / slide) ((last_time e.0.ts es + len) / slide - first_time e.0.ts es / slide + 1) q a (omega arith) holds)

  none_of_none : (w : Window Keyed) → IsIntervalWindow time_of len offset slide [] w → ⊥
  none_of_none w one = one.holds (ap (λ (v : Window Keyed). v.rows) one.is)

  pub are_interval_windows : (rows : List Keyed) → AreIntervalWindows time_of len offset slide rows (interval_windows len offset slide rows)
  are_interval_windows [] = record { each = tt; all = λ w one. absurd (none_of_none w one); by_start = tt }
  are_interval_windows (e ∷ es) = record {
    each = each (e ∷ es) (first_time e.0.ts es / slide) ((last_time e.0.ts es + len) / slide - first_time e.0.ts es / slide + 1);
    all = every e es;
    by_start = rises (e ∷ es) (first_time e.0.ts es / slide) ((last_time e.0.ts es + len) / slide - first_time e.0.ts es / slide + 1);
  }
