-- The windows that stand in a map by their ends are the interval windows of the rows that were summed up.
use Rattle.std.proofs.Common.{◌≡◌, ◌≢◌, ◌≤◌, ◌<◌, ◌+◌, ◌*◌, ◌%◌, ℕ, zero, suc, ℤ, pos, ◌+ℤ◌, ◌-ℤ◌, ◌≤ℤ◌, ◌<ℤ◌, Bool, true, false, cond, ◌&&◌, nat_le, nat_lt, int_le, int_lt, List, [], ◌∷◌, ◌++◌, filter, map, length, Contains, Option, Some, None, IsSome, refl, sym, ap, ◌∙◌, subst, arith, true≢false}
use Rattle.std.specs.BTreeMap.{BTreeMap, get, is_at}
use Rattle.std.specs.List.{AllByRecursion}
use Rattle.std.specs.List.Sorted.{IsStrictlySortedBy}
use Rattle.std.specs.Map.{keys_of, lookup}
use Rattle.std.specs.Option.{unwrap_or}
use Rattle.std.specs.Ordering.{nat_cmp, is_eq}
use Rattle.std.specs.declared.cmp.Ordering.TheVariants.{Less}
use Rattle.std.proofs.lemmas.Int.{ints}
use Rattle.std.proofs.lemmas.List.{map-append}
use Rattle.std.proofs.lemmas.List.Elements.{filter-append}
use Rattle.std.proofs.lemmas.Bool.{and_parts}
use Rattle.std.proofs.lemmas.Bool.Decides.{nat_tests}
use Rattle.td_layer.specs.declared.values.Key.{Key}
use Rattle.td_limits.specs.declared.limits.TheConstants.{LAST_TIMESTAMP, LONGEST_DURATION}
use Rattle.td_query.specs.Closed.{IsHeld, windows_by_end}
use Rattle.td_query.specs.Frames.{IsEnd, is_before_end}
use Rattle.td_query.specs.Framed.{frame_numbers}
use Rattle.td_query.specs.Slots.{has_row, window_from}
use Rattle.td_query.specs.Sums.{Sum, sum_of}
use Rattle.td_query.specs.Summed.{takes, AreSums, AllKeys}
use Rattle.td_query.specs.declared.frames.Frame.{Frame}
use Rattle.td_query.proofs.Intervals.{within_out, start_is, end_is, are_interval_windows}
use Rattle.td_verdict.specs.Windowed.{Keyed, interval_windows}
use Rattle.td_window.proofs.Determined.{intervals_unique}
use Rattle.td_window.specs.Spans.{time_of}
use Rattle.td_window.specs.Windows.{Window, is_within, interval_window, IsStart, StartsRise, IsIntervalWindow}

-- ---- what is found of entries in order
less_is : (a b : ℕ) → nat_cmp a b ≡ Less → is_eq (nat_cmp b a) ≡ false
less_is a b e = grind (arith, nat_tests)

equal_is : (a : ℕ) → is_eq (nat_cmp a a) ≡ true
equal_is a = grind (arith, nat_tests)

later_keys : (k : ℕ) (es : List (ℕ × Sum)) → AllByRecursion (λ m. nat_cmp k m ≡ Less) (keys_of es) → (s : Sum) (all : List (ℕ × Sum))
    → AllByRecursion (λ (e : ℕ × Sum). lookup (is_at (nat_cmp e.0)) all ≡ Some e.1) es → AllByRecursion (λ (e : ℕ × Sum). lookup (is_at (nat_cmp e.0)) ((k, s) ∷ all) ≡ Some e.1) es
later_keys k [] less s all found = tt
later_keys k (e ∷ es) less s all found =
    (ap (λ b. cond b (Some s) (lookup (is_at (nat_cmp e.0)) all)) (less_is k e.0 less.0) ∙ found.0, later_keys k es less.1 s all found.1)

pub found_in_order : (es : List (ℕ × Sum)) → IsStrictlySortedBy nat_cmp (keys_of es) → AllByRecursion (λ (e : ℕ × Sum). lookup (is_at (nat_cmp e.0)) es ≡ Some e.1) es
unfolding IsStrictlySortedBy
found_in_order [] sorted = tt
found_in_order (e ∷ es) sorted =
    (ap (λ b. cond b (Some e.1) (lookup (is_at (nat_cmp e.0)) es)) (equal_is e.0), later_keys e.0 es sorted.0 e.1 es (found_in_order es sorted.1))

-- ---- one entry more
pub all_parts : {X : Type 0} (P : X → Type 0) (xs : List X) (x : X) → AllByRecursion P (xs ++ x ∷ []) → AllByRecursion P xs × P x
all_parts P [] x all = (tt, all.0)
all_parts P (y ∷ ys) x all = let rest = all_parts P ys x all.1 in ((all.0, rest.0), rest.1)

pub by_end_more : {X : Type 0} (wr : Window Keyed → X) (f : Frame) (rows : List Keyed) (es : List (ℕ × Sum)) (e : ℕ × Sum) (old : List X) → old ≡ map wr (windows_by_end f rows es)
    → cond (has_row e.1) (old ++ wr (window_from f.len e.0 (filter (takes f.len e.0) rows)) ∷ []) old ≡ map wr (windows_by_end f rows (es ++ e ∷ []))
by_end_more wr f rows es e old is =
    ap (λ l. cond (has_row e.1) (l ++ wr (window_from f.len e.0 (filter (takes f.len e.0) rows)) ∷ []) l) is
    ∙ one (has_row e.1)
    ∙ sym (ap (λ l. map wr (map (λ (e : ℕ × Sum). window_from f.len e.0 (filter (takes f.len e.0) rows)) l)) (filter-append (λ (e : ℕ × Sum). has_row e.1) es (e ∷ [])))
  where
    one : (b : Bool) → cond b (map wr (windows_by_end f rows es) ++ wr (window_from f.len e.0 (filter (takes f.len e.0) rows)) ∷ []) (map wr (windows_by_end f rows es))
        ≡ map wr (map (λ (e : ℕ × Sum). window_from f.len e.0 (filter (takes f.len e.0) rows)) (filter (λ (e : ℕ × Sum). has_row e.1) es ++ cond b (e ∷ []) []))
    one true = twice (filter (λ (e : ℕ × Sum). has_row e.1) es) (e ∷ [])
      where
        twice : (xs ys : List (ℕ × Sum)) → map wr (map (λ (e : ℕ × Sum). window_from f.len e.0 (filter (takes f.len e.0) rows)) xs) ++ map wr (map (λ (e : ℕ × Sum). window_from f.len e.0 (filter (takes f.len e.0) rows)) ys)
            ≡ map wr (map (λ (e : ℕ × Sum). window_from f.len e.0 (filter (takes f.len e.0) rows)) (xs ++ ys))
        twice xs ys = sym (ap (map wr) (map-append (λ (e : ℕ × Sum). window_from f.len e.0 (filter (takes f.len e.0) rows)) xs ys) ∙ map-append wr (map (λ (e : ℕ × Sum). window_from f.len e.0 (filter (takes f.len e.0) rows)) xs) (map (λ (e : ℕ × Sum). window_from f.len e.0 (filter (takes f.len e.0) rows)) ys))
    one false = ap (λ l. map wr (map (λ (e : ℕ × Sum). window_from f.len e.0 (filter (takes f.len e.0) rows)) l)) (sym (append_empty (filter (λ (e : ℕ × Sum). has_row e.1) es)))
      where
        append_empty : (xs : List (ℕ × Sum)) → xs ++ [] ≡ xs
        append_empty [] = refl
        append_empty (x ∷ xs) = ap (λ l. x ∷ l) (append_empty xs)

-- ---- what a window holds
within_is : (len end t : ℕ) → is_before_end len end t ≡ is_within len (pos end -ℤ pos len) t
within_is len end t = go (is_before_end len end t) (is_within len (pos end -ℤ pos len) t) refl refl
  where
    into : (a b : Bool) → a ≡ true → b ≡ true → (a && b) ≡ true
    into true b p q = q
    into false b p q = absurd (cc)

    first : is_before_end len end t ≡ true → is_within len (pos end -ℤ pos len) t ≡ true
    first e =
        let both = and_parts (nat_lt t end) (nat_le end (t + len)) e in
        let a0 = both.0 in
        let b0 = both.1 in
        let a : t < end = grind (arith, nat_tests) in
        let b : end ≤ t + len = grind (arith, nat_tests) in
        let c : int_le (pos end -ℤ pos len) (pos t) ≡ true = grind (arith, ints) in
        let d : int_lt (pos t) ((pos end -ℤ pos len) +ℤ pos len) ≡ true = grind (arith, ints) in
        into (int_le (pos end -ℤ pos len) (pos t)) (int_lt (pos t) ((pos end -ℤ pos len) +ℤ pos len)) c d

    second : is_within len (pos end -ℤ pos len) t ≡ true → is_before_end len end t ≡ true
    second e =
        let both = within_out len (pos end -ℤ pos len) t e in
        let c : (pos end -ℤ pos len) ≤ℤ pos t = both.0 in
        let d : pos t <ℤ ((pos end -ℤ pos len) +ℤ pos len) = both.1 in
        let a : t < end = omega (arith, ints, d) in
        let b : end ≤ t + len = omega (arith, ints, c) in
        into (nat_lt t end) (nat_le end (t + len)) (grind (arith, nat_tests)) (grind (arith, nat_tests))

    go : (a b : Bool) → is_before_end len end t ≡ a → is_within len (pos end -ℤ pos len) t ≡ b → is_before_end len end t ≡ is_within len (pos end -ℤ pos len) t
    go true b p q = p ∙ sym (first p)
    go false true p q = absurd (true≢false (sym (second q) ∙ p))
    go false false p q = p ∙ sym q

same_filter : (f g : Keyed → Bool) → ((e : Keyed) → f e ≡ g e) → (rows : List Keyed) → filter f rows ≡ filter g rows
same_filter f g same [] = refl
same_filter f g same (e ∷ es) =
    ap (λ b. cond b (e ∷ filter f es) (filter f es)) (same e) ∙ ap (λ l. cond (g e) (e ∷ l) l) (same_filter f g same es)

window_is : (len end : ℕ) (rows : List Keyed) → window_from len end (filter (takes len end) rows) ≡ interval_window time_of len rows (pos end -ℤ pos len)
window_is len end rows =
    let ends : pos end ≡ (pos end -ℤ pos len) +ℤ pos len = omega (arith, ints) in
    ap (λ (l : List Keyed). window_from len end l) (same_filter (takes len end) (λ (e : Keyed). is_within len (pos end -ℤ pos len) e.0.ts) (λ e. within_is len end e.0.ts) rows)
    ∙ ap (λ (z : ℤ). from z) ends
  where
    from : ℤ → Window Keyed
    from z = record { start = pos end -ℤ pos len; end = z; rows = filter (λ (e : Keyed). is_within len (pos end -ℤ pos len) e.0.ts) rows }

some_row : (rows : List Keyed) → nat_lt 0 (length rows) ≡ true → rows ≢ []
some_row rows e none = let long : length rows ≡ 0 = ap length none in true≢false (sym e ∙ grind (arith, nat_tests))

row_of : (rows : List Keyed) → rows ≢ [] → nat_lt 0 (length rows) ≡ true
row_of [] some = absurd (some refl)
row_of (e ∷ es) some = grind (arith, nat_tests)

-- a row of those that pass a test
record Passes (test : Keyed → Bool) (rows : List Keyed) (K : Key → Type 0) : Type 0 where
  row : Keyed
  passes : test row ≡ true
  key : K row.0

passing : (test : Keyed → Bool) (K : Key → Type 0) (rows : List Keyed) → AllKeys K rows → filter test rows ≢ [] → Passes test rows K
passing test K [] all some = absurd (some refl)
passing test K (e ∷ es) all some = go (test e) refl (λ h. passing test K es all.1 h)
  where
    go : (b : Bool) → test e ≡ b → (filter test es ≢ [] → Passes test es K) → Passes test (e ∷ es) K
    go true is rest = record { row = e; passes = is; key = all.0 }
    go false is rest =
        let r = rest (λ none. some (ap (λ b. cond b (e ∷ filter test es) (filter test es)) is ∙ none)) in
        record { row = r.row; passes = r.passes; key = r.key }

module _ (f : Frame) (places : List (Option ℕ)) (m : BTreeMap ℕ Sum) (rows : List Keyed) (sums : AreSums f places m rows) (late : AllKeys (λ k. k.ts ≤ LAST_TIMESTAMP) rows) where
  held_at : (end : ℕ) (s : Sum) → get nat_cmp m end ≡ Some s → IsHeld f places rows (end, s)
  held_at end s found =
      let there : IsSome (get nat_cmp m end) = subst (λ (o : Option Sum). IsSome o) (sym found) refl in
      let same : s ≡ sum_of places (filter (takes f.len end) rows) = ap (λ (o : Option Sum). unwrap_or o (sum_of places [])) (sym found) ∙ sums.sums end (sums.ends end there) in
      record { sum = same; in_time = λ some. in_time (some_row (filter (takes f.len end) rows) (ap (λ (x : Sum). nat_lt 0 x.rows) (sym same) ∙ some)) }
    where
      in_time : filter (takes f.len end) rows ≢ [] → end ≤ LAST_TIMESTAMP + LONGEST_DURATION
      in_time some =
          let r = passing (takes f.len end) (λ k. k.ts ≤ LAST_TIMESTAMP) rows late some in
          let b0 = (and_parts (nat_lt r.row.0.ts end) (nat_le end (r.row.0.ts + f.len)) r.passes).1 in
          let b : end ≤ r.row.0.ts + f.len = grind (arith, nat_tests) in
          let k = r.key in
          let l = f.in_bounds in
          omega (arith, b, k, l)

  all_held : (es : List (ℕ × Sum)) → AllByRecursion (λ (e : ℕ × Sum). lookup (is_at (nat_cmp e.0)) m.entries ≡ Some e.1) es → AllByRecursion (IsHeld f places rows) es
  all_held [] found = tt
  all_held (e ∷ es) found = (held_at e.0 e.1 found.0, all_held es found.1)

  pub entries_held : IsStrictlySortedBy nat_cmp (keys_of m.entries) → AllByRecursion (IsHeld f places rows) m.entries
  entries_held sorted = all_held m.entries (found_in_order m.entries sorted)

  module _ (len offset slide : ℕ) (numbers : frame_numbers f ≡ (len, (offset + len) % slide, slide)) where
    abbrev One : Window Keyed → Type 0
    One = IsIntervalWindow time_of len offset slide rows

    len_is : f.len ≡ len
    len_is = ap (λ (n : ℕ × ℕ × ℕ). n.0) numbers

    phase_is : f.phase ≡ (offset + len) % slide
    phase_is = ap (λ (n : ℕ × ℕ × ℕ). n.1) numbers

    slide_is : f.slide ≡ slide
    slide_is = ap (λ (n : ℕ × ℕ × ℕ). n.2) numbers

    some_slide : 0 < slide
    some_slide = let s = f.some in let e = slide_is in omega (arith, s, e)

    -- what stands at an end
    abbrev at_end : ℕ → Window Keyed
    at_end end = window_from f.len end (filter (takes f.len end) rows)

    at_end_is : (end : ℕ) → at_end end ≡ interval_window time_of len rows (pos end -ℤ pos len)
    at_end_is end = window_is f.len end rows ∙ ap (λ n. interval_window time_of n rows (pos end -ℤ pos n)) len_is

    end_start : (end : ℕ) → IsEnd f.phase f.slide end → IsStart offset slide (pos end -ℤ pos len)
    end_start end (q, e) =
        let same : end ≡ (offset + len) % slide + q * slide = e ∙ ap (λ n. n + q * f.slide) phase_is ∙ ap (λ n. (offset + len) % slide + q * n) slide_is in
        subst (λ (n : ℕ). IsStart offset slide (pos n -ℤ pos len)) (sym same) (start_is offset len slide some_slide q)

    one_at : (e : ℕ × Sum) → lookup (is_at (nat_cmp e.0)) m.entries ≡ Some e.1 → has_row e.1 ≡ true → One (at_end e.0)
    one_at e found some =
        let there : IsSome (get nat_cmp m e.0) = subst (λ (o : Option Sum). IsSome o) (sym found) refl in
        let held = held_at e.0 e.1 found in
        record {
          starts = subst (λ (n : ℕ). IsStart offset slide (pos e.0 -ℤ pos n)) (sym len_is) (end_start e.0 (sums.ends e.0 there));
          is = at_end_is e.0 ∙ ap (λ n. interval_window time_of len rows (pos e.0 -ℤ pos n)) (sym len_is);
          holds = some_row (filter (takes f.len e.0) rows) (ap (λ (x : Sum). nat_lt 0 x.rows) (sym held.sum) ∙ some);
        }

    each_by : (e : ℕ × Sum) (es : List (ℕ × Sum)) (b : Bool) → has_row e.1 ≡ b → lookup (is_at (nat_cmp e.0)) m.entries ≡ Some e.1 → AllByRecursion One (windows_by_end f rows es)
        → AllByRecursion One (map (λ (e : ℕ × Sum). at_end e.0) (cond b (e ∷ filter (λ (e : ℕ × Sum). has_row e.1) es) (filter (λ (e : ℕ × Sum). has_row e.1) es)))
    each_by e es true is found rest = (one_at e found is, rest)
    each_by e es false is found rest = rest

    each : (es : List (ℕ × Sum)) → AllByRecursion (λ (e : ℕ × Sum). lookup (is_at (nat_cmp e.0)) m.entries ≡ Some e.1) es → AllByRecursion One (windows_by_end f rows es)
    each [] found = tt
    each (e ∷ es) found = each_by e es (has_row e.1) refl found.0 (each es found.1)

    -- by their starts
    starts_before : (a b : ℕ) → nat_cmp a b ≡ Less → (pos a -ℤ pos f.len) <ℤ (pos b -ℤ pos f.len)
    starts_before a b e = let h : a < b = grind (arith, nat_tests) in omega (arith, ints, h)

    later_by : (k : ℕ) (e : ℕ × Sum) (es : List (ℕ × Sum)) (b : Bool) → nat_cmp k e.0 ≡ Less → AllByRecursion (λ (v : Window Keyed). (pos k -ℤ pos f.len) <ℤ v.start) (windows_by_end f rows es)
        → AllByRecursion (λ (v : Window Keyed). (pos k -ℤ pos f.len) <ℤ v.start) (map (λ (e : ℕ × Sum). at_end e.0) (cond b (e ∷ filter (λ (e : ℕ × Sum). has_row e.1) es) (filter (λ (e : ℕ × Sum). has_row e.1) es)))
    later_by k e es true less rest = (starts_before k e.0 less, rest)
    later_by k e es false less rest = rest

    all_later : (k : ℕ) (es : List (ℕ × Sum)) → AllByRecursion (λ n. nat_cmp k n ≡ Less) (keys_of es) → AllByRecursion (λ (v : Window Keyed). (pos k -ℤ pos f.len) <ℤ v.start) (windows_by_end f rows es)
    all_later k [] less = tt
    all_later k (e ∷ es) less = later_by k e es (has_row e.1) less.0 (all_later k es less.1)

    rise_by : (e : ℕ × Sum) (es : List (ℕ × Sum)) (b : Bool) → AllByRecursion (λ n. nat_cmp e.0 n ≡ Less) (keys_of es) → StartsRise (windows_by_end f rows es)
        → StartsRise (map (λ (e : ℕ × Sum). at_end e.0) (cond b (e ∷ filter (λ (e : ℕ × Sum). has_row e.1) es) (filter (λ (e : ℕ × Sum). has_row e.1) es)))
    rise_by e es true less rest = (all_later e.0 es less, rest)
    rise_by e es false less rest = rest

    rise : (es : List (ℕ × Sum)) → IsStrictlySortedBy nat_cmp (keys_of es) → StartsRise (windows_by_end f rows es)
    unfolding IsStrictlySortedBy
    rise [] sorted = tt
    rise (e ∷ es) sorted = rise_by e es (has_row e.1) sorted.0 (rise es sorted.1)

    -- all of them
    here : (w : Window Keyed) (ws : List (Window Keyed)) → Contains (w ∷ ws) w
    here w ws = (zero, omega arith, refl)

    behind : (v : Window Keyed) (ws : List (Window Keyed)) (w : Window Keyed) → Contains ws w → Contains (v ∷ ws) w
    behind v ws w (k, h, e) = (suc k, omega (arith, h), e)

    contains_here : (e : ℕ × Sum) (es : List (ℕ × Sum)) (b : Bool) → b ≡ true → Contains (map (λ (e : ℕ × Sum). at_end e.0) (cond b (e ∷ filter (λ (e : ℕ × Sum). has_row e.1) es) (filter (λ (e : ℕ × Sum). has_row e.1) es))) (at_end e.0)
    contains_here e es true is = here (at_end e.0) (windows_by_end f rows es)
    contains_here e es false is = absurd (true≢false (sym is))

    contains_behind : (e : ℕ × Sum) (es : List (ℕ × Sum)) (b : Bool) (w : Window Keyed) → Contains (windows_by_end f rows es) w → Contains (map (λ (e : ℕ × Sum). at_end e.0) (cond b (e ∷ filter (λ (e : ℕ × Sum). has_row e.1) es) (filter (λ (e : ℕ × Sum). has_row e.1) es))) w
    contains_behind e es true w c = behind (at_end e.0) (windows_by_end f rows es) w c
    contains_behind e es false w c = c

    found_end : (end : ℕ) (s : Sum) (es : List (ℕ × Sum)) → lookup (is_at (nat_cmp end)) es ≡ Some s → has_row s ≡ true → Contains (windows_by_end f rows es) (at_end end)
    found_end end s [] found some = absurd (cc)
    found_end end s (e ∷ es) found some = go (is_eq (nat_cmp end e.0)) refl found (λ h. found_end end s es h some)
      where
        equal : is_eq (nat_cmp end e.0) ≡ true → e.0 ≡ end
        equal is = grind (arith, nat_tests)

        go : (b : Bool) → is_eq (nat_cmp end e.0) ≡ b → cond b (Some e.1) (lookup (is_at (nat_cmp end)) es) ≡ Some s → (lookup (is_at (nat_cmp end)) es ≡ Some s → Contains (windows_by_end f rows es) (at_end end))
            → Contains (windows_by_end f rows (e ∷ es)) (at_end end)
        go true is found rest =
            let same : e.1 ≡ s = cc in
            subst (λ (n : ℕ). Contains (windows_by_end f rows (e ∷ es)) (at_end n)) (equal is) (contains_here e es (has_row e.1) (ap (λ (x : Sum). has_row x) same ∙ some))
        go false is found rest = contains_behind e es (has_row e.1) (at_end end) (rest found)

    every_at : (end : ℕ) (o : Option Sum) → get nat_cmp m end ≡ o → unwrap_or o (sum_of places []) ≡ sum_of places (filter (takes f.len end) rows) → filter (takes f.len end) rows ≢ [] → Contains (windows_by_end f rows m.entries) (at_end end)
    every_at end None found same some =
        absurd (true≢false (sym (row_of (filter (takes f.len end) rows) some) ∙ ap (λ (x : Sum). nat_lt 0 x.rows) (sym same)))
    every_at end (Some s) found same some =
        found_end end s m.entries found (ap (λ (x : Sum). nat_lt 0 x.rows) same ∙ row_of (filter (takes f.len end) rows) some)

    every : (w : Window Keyed) → One w → Contains (windows_by_end f rows m.entries) w
    every w one =
        let has : filter (λ (e : Keyed). is_within len w.start e.0.ts) rows ≢ [] = λ none. one.holds (ap (λ (v : Window Keyed). v.rows) one.is ∙ none) in
        let r = passing (λ (e : Keyed). is_within len w.start e.0.ts) (λ k. k.ts ≤ LAST_TIMESTAMP) rows late has in
        let b : pos r.row.0.ts <ℤ (w.start +ℤ pos len) = (within_out len w.start r.row.0.ts r.passes).1 in
        let q = end_is offset len slide some_slide w.start r.row.0.ts one.starts b in
        let end : ℕ = (offset + len) % slide + q.0 * slide in
        let ends : w.start +ℤ pos len ≡ pos end = q.1 in
        let start : w.start ≡ pos end -ℤ pos len = omega (arith, ints, ends) in
        let same : w ≡ at_end end = one.is ∙ ap (interval_window time_of len rows) start ∙ sym (at_end_is end) in
        let is : IsEnd f.phase f.slide end = (q.0, ap (λ n. n + q.0 * slide) (sym phase_is) ∙ ap (λ n. f.phase + q.0 * n) (sym slide_is)) in
        subst (λ (v : Window Keyed). Contains (windows_by_end f rows m.entries) v) (sym same)
        (every_at end (get nat_cmp m end) refl (sums.sums end is) (λ none. one.holds (ap (λ (v : Window Keyed). v.rows) same ∙ none)))

    pub windows_are : IsStrictlySortedBy nat_cmp (keys_of m.entries) → windows_by_end f rows m.entries ≡ interval_windows len offset slide rows
    windows_are sorted =
        intervals_unique time_of len offset slide rows (windows_by_end f rows m.entries) (interval_windows len offset slide rows)
        (record { each = each m.entries (found_in_order m.entries sorted); all = every; by_start = rise m.entries sorted })
        (are_interval_windows offset len slide some_slide rows)
