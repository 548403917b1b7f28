-- The windows of good rows: their starts and ends can be printed, and their rows are good and no more.
use Rattle.std.proofs.Common.{◌≡◌, ℕ, suc, ◌-◌, ◌*◌, ◌^◌, ◌<◌, ◌≤◌, ℤ, pos, Bool, true, false, cond, ◌==◌, List, [], ◌∷◌, length, map, refl, arith}
use Rattle.std.specs.Prelude.{neg_ℤ, ◌+ℤ◌, ◌≤ℤ◌, int_le, int_lt, not, ◌||◌, nat_lt, nat_le, filter, FitsSigned}
use Rattle.std.specs.Int.{w128}
use Rattle.std.specs.List.{AllByRecursion}
use Rattle.std.proofs.lemmas.Bool.{and_parts}
use Rattle.std.proofs.lemmas.Bool.Decides.{nat_tests}
use Rattle.std.proofs.lemmas.Int.{ints}
use Rattle.td_limits.specs.declared.limits.TheConstants.{LAST_TIMESTAMP, LONGEST_DURATION, WINDOWS_OF_A_ROW}
use Rattle.td_model.specs.declared.catalog.Column.{Column}
use Rattle.td_model.specs.declared.language.WindowDef.{WindowDef}
use Rattle.td_model.specs.declared.language.WindowDef.TheVariants as window
use Rattle.td_verdict.specs.Refusals.{has_bad_bounds}
use Rattle.td_verdict.specs.Streams.{is_long}
use Rattle.td_verdict.specs.Windowed.{Keyed, holds_row, first_time, last_time, start_of_turn, turns_between, interval_windows, value_in, windows_of}
use Rattle.td_window.specs.Spans.{time_of}
use Rattle.td_window.specs.Windows.{Window, is_within, interval_window, led_by, cut, last_of, window_of_group, isnt_null, is_same_state}
use Rattle.td_printed.proofs.Cells.{IsGood}
use Rattle.td_printed.proofs.Kept.{all_filtered}
use Rattle.td_printed.proofs.Lists.{all_mapped, length_filtered}
use Rattle.td_printed.proofs.Numbers.{between_fits, time_fits}

pub record IsGoodWindow (w : Window Keyed) : Type 0 where
  pub start : FitsSigned w128 w.start
  pub end : FitsSigned w128 w.end
  pub rows : AllByRecursion IsGood w.rows
  pub few : length w.rows < 2 ^ 62

-- ---- interval windows

-- a start that a row isn't before, nor so long behind
record IsNear (len : ℕ) (k : ℤ) : Type 0 where
  low : neg_ℤ (pos len) ≤ℤ k
  high : k ≤ℤ pos LAST_TIMESTAMP

row_near : (len : ℕ) (k : ℤ) (ts : ℕ) → ts ≤ LAST_TIMESTAMP → is_within len k ts ≡ true → IsNear len k
row_near len k ts l h =
    let p = and_parts (int_le k (pos ts)) (int_lt (pos ts) (k +ℤ pos len)) h in
    record { low = grind (arith, ints, p.1); high = grind (arith, ints, p.0, l) }

near : (len : ℕ) (k : ℤ) (rows : List Keyed) → AllByRecursion IsGood rows
    → holds_row (interval_window time_of len rows k) ≡ true → IsNear len k
near len k [] good h = absurd (cc)
near len k (e ∷ es) good h = by (is_within len k (time_of e)) refl h (λ held. near len k es good.1 held)
  where
    within : Keyed → Bool
    within x = is_within len k (time_of x)

    by : (b : Bool) → is_within len k (time_of e) ≡ b
        → not (length (cond b (e ∷ filter within es) (filter within es)) == 0) ≡ true
        → (not (length (filter within es) == 0) ≡ true → IsNear len k) → IsNear len k
    by true is held rest = row_near len k e.0.ts good.0.time is
    by false is held rest = rest held

module _ (len : ℕ) (short : len ≤ LONGEST_DURATION) (rows : List Keyed) (good : AllByRecursion IsGood rows)
    (few : length rows < 2 ^ 62) where
  interval_good : (k : ℤ) → holds_row (interval_window time_of len rows k) ≡ true
      → IsGoodWindow (interval_window time_of len rows k)
  interval_good k holds =
      let n = near len k rows good holds in
      let less = length_filtered (λ (e : Keyed). is_within len k (time_of e)) rows in
      record {
        start = between_fits k (omega (arith, ints, n.low, short)) (omega (arith, ints, n.high));
        end = between_fits (k +ℤ pos len) (omega (arith, ints, n.low, short)) (omega (arith, ints, n.high, short));
        rows = all_filtered IsGood (λ (e : Keyed). is_within len k (time_of e)) rows good;
        few = omega (arith, less, few);
      }

  held_good : (start : ℕ → ℤ) (turns : List ℕ)
      → AllByRecursion IsGoodWindow
      (filter holds_row (map (λ turn. interval_window time_of len rows (start turn)) turns))
  held_good start [] = tt
  held_good start (turn ∷ turns) = by (holds_row (interval_window time_of len rows (start turn))) refl
      (held_good start turns)
    where
      others : List (Window Keyed)
      others = filter holds_row (map (λ turn. interval_window time_of len rows (start turn)) turns)

      by : (b : Bool) → holds_row (interval_window time_of len rows (start turn)) ≡ b
          → AllByRecursion IsGoodWindow others
          → AllByRecursion IsGoodWindow (cond b (interval_window time_of len rows (start turn) ∷ others) others)
      by true holds rest = (interval_good (start turn) holds, rest)
      by false holds rest = rest

sixth_of : (a b c d e f g h : Bool) → (a || b || c || d || e || f || g || h) ≡ false → f ≡ false
sixth_of false false false false false false g h k = refl
sixth_of false false false false false true g h k = absurd (cc)
sixth_of false false false false true f g h k = absurd (cc)
sixth_of false false false true e f g h k = absurd (cc)
sixth_of false false true d e f g h k = absurd (cc)
sixth_of false true c d e f g h k = absurd (cc)
sixth_of true b c d e f g h k = absurd (cc)

short_interval : (len offset slide : ℕ) → has_bad_bounds (window.Interval len offset slide) ≡ false
    → len ≤ LONGEST_DURATION
short_interval len offset slide h =
    let long : nat_lt LONGEST_DURATION len ≡ false = sixth_of (len == 0) (slide == 0) (nat_lt len slide)
    (nat_lt (WINDOWS_OF_A_ROW * slide) len) (nat_le len offset) (is_long len) (is_long offset) (is_long slide) h in
    grind (arith, nat_tests)

intervals_good : (len offset slide : ℕ) (rows : List Keyed) → len ≤ LONGEST_DURATION → AllByRecursion IsGood rows
    → length rows < 2 ^ 62 → AllByRecursion IsGoodWindow (interval_windows len offset slide rows)
intervals_good len offset slide [] short good few = tt
intervals_good len offset slide (e ∷ es) short good few = held_good len short (e ∷ es) good few
    (start_of_turn len offset slide) (turns_between len slide (first_time e.0.ts es) (last_time e.0.ts es))

-- ---- sessions and state windows

-- the rows of a group that was cut
record IsGoodSpan (n : ℕ) (g : Keyed × List Keyed) : Type 0 where
  first : IsGood g.0
  others : AllByRecursion IsGood g.1
  few : length g.1 < n

of_more : (n : ℕ) (gs : List (Keyed × List Keyed)) → AllByRecursion (IsGoodSpan n) gs
    → AllByRecursion (IsGoodSpan (suc n)) gs
of_more n [] h = tt
of_more n (g ∷ gs) h = (
  record { first = h.0.first; others = h.0.others; few = omega (arith, h.0.few) },
  of_more n gs h.1,
)

led_good : (apart : Keyed → Keyed → Bool) (n : ℕ) (x : Keyed) (gs : List (Keyed × List Keyed)) → IsGood x
    → AllByRecursion (IsGoodSpan n) gs → AllByRecursion (IsGoodSpan (suc n)) (led_by apart x gs)
led_good apart n x [] h all = (record { first = h; others = tt; few = omega arith }, tt)
led_good apart n x ((y, ys) ∷ gs) h all =
    elim (apart x y) as
    (λ b. AllByRecursion (IsGoodSpan (suc n)) (cond b ((x, []) ∷ (y, ys) ∷ gs) ((x, y ∷ ys) ∷ gs))) [
      | true ↦ (record { first = h; others = tt; few = omega arith }, of_more n ((y, ys) ∷ gs) all)
      | false ↦ (
        record { first = h; others = (all.0.first, all.0.others); few = omega (arith, all.0.few) },
        of_more n gs all.1,
      )
    ]

cut_good : (apart : Keyed → Keyed → Bool) (rows : List Keyed) → AllByRecursion IsGood rows
    → AllByRecursion (IsGoodSpan (length rows)) (cut apart rows)
cut_good apart [] h = tt
cut_good apart (x ∷ rest) h = led_good apart (length rest) x (cut apart rest) h.0 (cut_good apart rest h.1)

last_good : (x : Keyed) (xs : List Keyed) → IsGood x → AllByRecursion IsGood xs → IsGood (last_of x xs)
last_good x [] h all = h
last_good x (y ∷ ys) h all = last_good y ys all.0 all.1

span_good : (n : ℕ) (g : Keyed × List Keyed) → n < 2 ^ 62 → IsGoodSpan n g
    → IsGoodWindow (window_of_group time_of g)
span_good n (x, xs) few h =
    record {
      start = time_fits x.0.ts h.first.time;
      end = time_fits (last_of x xs).0.ts (last_good x xs h.first h.others).time;
      rows = (h.first, h.others);
      few = omega (arith, h.few, few);
    }

spans_good : (apart : Keyed → Keyed → Bool) (rows : List Keyed) → AllByRecursion IsGood rows
    → length rows < 2 ^ 62 → AllByRecursion IsGoodWindow (map (window_of_group time_of) (cut apart rows))
spans_good apart rows good few = all_mapped (IsGoodSpan (length rows)) IsGoodWindow (window_of_group time_of)
    (cut apart rows) (λ g h. span_good (length rows) g few h) (cut_good apart rows good)

-- ---- the windows of a query

pub windows_good : (columns : List Column) (w : WindowDef) (rows : List Keyed) → has_bad_bounds w ≡ false
    → AllByRecursion IsGood rows → length rows < 2 ^ 62 → AllByRecursion IsGoodWindow (windows_of columns w rows)
windows_good columns window.Whole rows bounds good few =
    (record { start = time_fits 0 (omega arith); end = time_fits 0 (omega arith); rows = good; few = few }, tt)
windows_good columns (window.Interval len offset slide) rows bounds good few =
    intervals_good len offset slide rows (short_interval len offset slide bounds) good few
windows_good columns (window.Session column tol) rows bounds good few =
    spans_good (λ a b. nat_lt tol (time_of b - time_of a)) rows good few
windows_good columns (window.State column) rows bounds good few =
    let state = value_in columns column in
    let less = length_filtered (λ (e : Keyed). isnt_null (state e)) rows in
    spans_good (λ a b. not (is_same_state (state a) (state b))) (filter (λ (e : Keyed). isnt_null (state e)) rows)
    (all_filtered IsGood (λ (e : Keyed). isnt_null (state e)) rows good) (omega (arith, less, few))
