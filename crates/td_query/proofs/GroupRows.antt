-- The rows of groups whose rows are summed up are those of the groups.
use Rattle.std.proofs.Common.{◌≡◌, ◌≤◌, ◌+◌, ◌%◌, ℕ, Bool, true, false, cond, not, ◌&&◌, ◌||◌, ◌==◌, nat_le, nat_lt, List, [], ◌∷◌, ◌++◌, filter, map, length, Option, Some, refl, sym, ap, ◌∙◌, arith, true≢false}
use Rattle.std.specs.BTreeMap.{BTreeMap}
use Rattle.std.specs.List.{AllByRecursion, flat_map}
use Rattle.std.proofs.lemmas.Bool.{and_parts}
use Rattle.std.proofs.lemmas.Bool.Decides.{nat_tests}
use Rattle.std.proofs.lemmas.List.{append_assoc}
use Rattle.std.proofs.lemmas.List.Elements.{filter-append}
use Rattle.std.proofs.lemmas.Option.{same_Some}
use Rattle.td_layer.specs.Scans.{rows_in}
use Rattle.td_layer.specs.declared.values.Cell.{Cell}
use Rattle.td_limits.specs.declared.limits.TheConstants.{LAST_TIMESTAMP}
use Rattle.td_model.specs.Built.{is_whole}
use Rattle.td_model.specs.State.{Rows}
use Rattle.td_model.specs.declared.catalog.Column.{Column}
use Rattle.td_model.specs.declared.language.Query.{Query}
use Rattle.td_model.specs.declared.language.WindowDef.{WindowDef}
use Rattle.td_model.specs.declared.language.WindowDef.TheVariants as window
use Rattle.td_model.specs.declared.plan.Plan.{Plan}
use Rattle.td_model.specs.declared.windows.WinRow.{WinRow}
use Rattle.td_query.specs.Frames.{frame_of}
use Rattle.td_query.specs.Framed.{frame_numbers}
use Rattle.td_query.specs.Planned.{keyed, tables_of, picked_in}
use Rattle.td_query.specs.Read.{is_within}
use Rattle.td_query.specs.Sums.{Sum, sum_of}
use Rattle.td_query.specs.Summed.{takes, sum_at, AreSums, AllKeys, AllGroups}
use Rattle.td_query.specs.Totals.{WithSums, IsSummed, AreSummed}
use Rattle.td_query.specs.declared.frames.Frame.{Frame}
use Rattle.td_query.proofs.Apart.{keys_tables, keys_first}
use Rattle.td_query.proofs.Wanted.{within}
use Rattle.td_verdict.specs.Answered.{window_row, window_rows}
use Rattle.td_verdict.specs.Groups.{Grouped, is_picked, has_rows, is_shown, has_one_group, first_groups, put_tables}
use Rattle.td_verdict.specs.Windowed.{Keyed, whole_window, interval_windows, windows_of}
use Rattle.td_verdict.specs.declared.comparison.Comparison.{Comparison}
use Rattle.td_window.specs.Windows.{Window}

abbrev Numbers : Type 0
Numbers = ℕ × ℕ × ℕ

-- ---- all rows in one window
whole_numbers : (n : Numbers) (w : WindowDef) → is_whole w ≡ true → Some n ≡ frame_of w → n ≡ (LAST_TIMESTAMP + 1, 0, LAST_TIMESTAMP + 1)
whole_numbers n window.Whole is e = same_Some n (LAST_TIMESTAMP + 1, 0, LAST_TIMESTAMP + 1) e
whole_numbers n (window.Interval len offset slide) is e = absurd (true≢false (sym is))
whole_numbers n (window.Session column tol) is e = absurd (true≢false (sym is))
whole_numbers n (window.State column) is e = absurd (true≢false (sym is))

whole_windows : (columns : List Column) (w : WindowDef) (rows : Rows) → is_whole w ≡ true → windows_of columns w rows ≡ whole_window rows ∷ []
whole_windows columns window.Whole rows is = refl
whole_windows columns (window.Interval len offset slide) rows is = absurd (true≢false (sym is))
whole_windows columns (window.Session column tol) rows is = absurd (true≢false (sym is))
whole_windows columns (window.State column) rows is = absurd (true≢false (sym is))

taken : (len : ℕ) (e : Keyed) → len ≡ LAST_TIMESTAMP + 1 → e.0.ts ≤ LAST_TIMESTAMP → takes len len e ≡ true
taken len e is late =
    let a : nat_lt e.0.ts len ≡ true = grind (arith, nat_tests) in
    let b : nat_le len (e.0.ts + len) ≡ true = grind (arith, nat_tests) in
    ap (λ x. x && nat_le len (e.0.ts + len)) a ∙ b

all_taken : (len : ℕ) → len ≡ LAST_TIMESTAMP + 1 → (rows : List Keyed) → AllKeys (λ k. k.ts ≤ LAST_TIMESTAMP) rows → filter (takes len len) rows ≡ rows
all_taken len is [] late = refl
all_taken len is (e ∷ es) late =
    ap (λ b. cond b (e ∷ filter (takes len len) es) (filter (takes len len) es)) (taken len e is late.0) ∙ ap (λ l. e ∷ l) (all_taken len is es late.1)

pub whole_sum_is : (f : Frame) (places : List (Option ℕ)) (m : BTreeMap ℕ Sum) (rows : List Keyed) (w : WindowDef) → is_whole w ≡ true → Some (frame_numbers f) ≡ frame_of w
    → AllKeys (λ k. k.ts ≤ LAST_TIMESTAMP) rows → AreSums f places m rows → sum_at places m f.len ≡ sum_of places rows
whole_sum_is f places m rows w is e late sums =
    let n = whole_numbers (frame_numbers f) w is e in
    let len : f.len ≡ LAST_TIMESTAMP + 1 = ap (λ (n : Numbers). n.0) n in
    let phase : f.phase ≡ 0 = ap (λ (n : Numbers). n.1) n in
    let slide : f.slide ≡ LAST_TIMESTAMP + 1 = ap (λ (n : Numbers). n.2) n in
    sums.sums f.len (1, omega (arith, len, phase, slide)) ∙ ap (sum_of places) (all_taken f.len len rows late)

abbrev group_of : List Cell → Rows → Grouped
group_of part rows = record { part = part; rows = rows }

pub whole_shown : (columns : List Column) (q : Query) (one : Bool) (part : List Cell) (g : Grouped) (rows : List WinRow) → is_whole q.window ≡ true → part ≡ g.part
    → rows ≡ cond (one || has_rows (group_of part g.rows)) (window_row columns q part (whole_window g.rows) ∷ []) [] → rows ≡ cond (is_shown one g) (window_rows columns q g) []
whole_shown columns q one part g rows is same e =
    e
    ∙ ap (λ (p : List Cell). cond (one || has_rows (group_of p g.rows)) (window_row columns q p (whole_window g.rows) ∷ []) []) same
    ∙ ap (λ ws. cond (is_shown one g) (map (window_row columns q g.part) ws) []) (sym (whole_windows columns q.window g.rows is))

-- ---- interval windows
no_whole : (q : Query) → is_whole q.window ≡ false → has_one_group q ≡ false
no_whole q is = ap (λ b. b && (length q.parts == 0)) is

none_there : (rows : Rows) → not (length rows == 0) ≡ false → rows ≡ []
none_there [] e = refl
none_there (r ∷ rs) e = absurd (true≢false (sym (full r rs) ∙ e))
  where
    full : (r : Keyed) (rs : Rows) → not (length (r ∷ rs) == 0) ≡ true
    full r rs = grind (arith, nat_tests)

windows_are : (columns : List Column) (n : Numbers) (w : WindowDef) (wr : Window Keyed → WinRow) (held : Rows) (rows : List WinRow) → is_whole w ≡ false → Some n ≡ frame_of w
    → ((len offset slide : ℕ) → n ≡ (len, (offset + len) % slide, slide) → rows ≡ map wr (interval_windows len offset slide held))
    → (rows ≡ map wr (windows_of columns w held)) × (windows_of columns w [] ≡ [])
windows_are columns n window.Whole wr held rows is e so = absurd (true≢false is)
windows_are columns n (window.Interval len offset slide) wr held rows is e so = (so len offset slide (same_Some n (len, (offset + len) % slide, slide) e), refl)
windows_are columns n (window.Session column tol) wr held rows is e so = absurd (cc)
windows_are columns n (window.State column) wr held rows is e so = absurd (cc)

pub interval_shown : (columns : List Column) (q : Query) (n : Numbers) (one : Bool) (part : List Cell) (g : Grouped) (rows : List WinRow) → is_whole q.window ≡ false → one ≡ has_one_group q → part ≡ g.part → Some n ≡ frame_of q.window
    → ((len offset slide : ℕ) → n ≡ (len, (offset + len) % slide, slide) → rows ≡ map (window_row columns q part) (interval_windows len offset slide g.rows)) → rows ≡ cond (is_shown one g) (window_rows columns q g) []
interval_shown columns q n one part g rows is single same e so =
    let are = windows_are columns n q.window (window_row columns q part) g.rows rows is e so in
    let all : rows ≡ window_rows columns q g = are.0 ∙ ap (λ (p : List Cell). map (window_row columns q p) (windows_of columns q.window g.rows)) same in
    go (has_rows g) refl all are.1
    ∙ ap (λ b. cond (b || has_rows g) (window_rows columns q g) []) (sym (single ∙ no_whole q is))
  where
    go : (b : Bool) → has_rows g ≡ b → rows ≡ window_rows columns q g → windows_of columns q.window [] ≡ [] → rows ≡ cond (has_rows g) (window_rows columns q g) []
    go true has all none = all ∙ sym (ap (λ b. cond b (window_rows columns q g) []) has)
    go false has all none =
        all
        ∙ ap (λ (held : Rows). map (window_row columns q g.part) (windows_of columns q.window held)) (none_there g.rows has)
        ∙ ap (map (window_row columns q g.part)) none
        ∙ sym (ap (λ b. cond b (window_rows columns q g) []) has)

-- ---- one group more
pub record Parted (f : Frame) (places : List (Option ℕ)) (cs : List WithSums) (c : WithSums) (gs : List Grouped) : Type 0 where
  pub before : List Grouped
  pub last : Grouped
  pub are : gs ≡ before ++ last ∷ []
  pub summed : AreSummed f places cs before
  pub is : IsSummed f places c last

only : (f : Frame) (places : List (Option ℕ)) (c : WithSums) (g : Grouped) (gs : List Grouped) → AreSummed f places [] gs → IsSummed f places c g → Parted f places [] c (g ∷ gs)
only f places c g [] all one = record { before = []; last = g; are = refl; summed = tt; is = one }
only f places c g (h ∷ gs) all one = absurd all

pub parted : (f : Frame) (places : List (Option ℕ)) (cs : List WithSums) (c : WithSums) (gs : List Grouped) → AreSummed f places (cs ++ c ∷ []) gs → Parted f places cs c gs
parted f places [] c [] all = absurd all
parted f places [] c (g ∷ gs) all = only f places c g gs all.1 all.0
parted f places (x ∷ cs) c [] all = absurd all
parted f places (x ∷ cs) c (g ∷ gs) all =
    let rest = parted f places cs c gs all.1 in
    record { before = g ∷ rest.before; last = rest.last; are = ap (λ l. g ∷ l) rest.are; summed = (all.0, rest.summed); is = rest.is }

flat-append : {X Y : Type 0} (h : X → List Y) (xs ys : List X) → flat_map h (xs ++ ys) ≡ flat_map h xs ++ flat_map h ys
flat-append h [] ys = refl
flat-append h (x ∷ xs) ys = ap (λ l. h x ++ l) (flat-append h xs ys) ∙ sym (append_assoc (h x) (flat_map h xs) (flat_map h ys))

pub one_more : {Y : Type 0} (h : Grouped → List Y) (p : Grouped → Bool) (gs before : List Grouped) (last : Grouped) (now next : List Y) → gs ≡ before ++ last ∷ []
    → next ≡ now ++ flat_map h (filter p (last ∷ [])) → now ≡ flat_map h (filter p before) → next ≡ flat_map h (filter p gs)
one_more h p gs before last now next are added so =
    added
    ∙ ap (λ l. l ++ flat_map h (filter p (last ∷ []))) so
    ∙ sym (flat-append h (filter p before) (filter p (last ∷ [])))
    ∙ ap (flat_map h) (sym (filter-append p before (last ∷ [])) ∙ ap (filter p) (sym are))

-- ---- picked rows lie in time
late_at : (e : Keyed) (es : Rows) (b : Bool) → e.0.ts ≤ LAST_TIMESTAMP → AllKeys (λ k. k.ts ≤ LAST_TIMESTAMP) es → AllKeys (λ k. k.ts ≤ LAST_TIMESTAMP) (cond b (e ∷ es) es)
late_at e es true late rest = (late, rest)
late_at e es false late rest = rest

late_in : (test : Keyed → Bool) (lo hi : ℕ) → hi ≤ LAST_TIMESTAMP → (es : Rows) → AllByRecursion (λ (e : Keyed). is_within lo hi e ≡ true) es → AllKeys (λ k. k.ts ≤ LAST_TIMESTAMP) (filter test es)
late_in test lo hi time [] all = tt
late_in test lo hi time (e ∷ es) all =
    let below : nat_le e.0.ts hi ≡ true = (and_parts (nat_le lo e.0.ts) (nat_le e.0.ts hi) all.0).1 in
    let under : e.0.ts ≤ hi = grind (arith, nat_tests) in
    late_at e (filter test es) (test e) (omega (arith, under, time)) (late_in test lo hi time es all.1)

pub picked_late : (p : Plan) (ps : List Comparison) (one : Bool) (all : Rows) → p.hi ≤ LAST_TIMESTAMP → AllGroups (λ k. k.ts ≤ LAST_TIMESTAMP) (put_tables (picked_in p ps all) (first_groups one) (tables_of p))
picked_late p ps one all time =
    keys_tables (λ k. k.ts ≤ LAST_TIMESTAMP) (picked_in p ps all)
    (λ t. late_in (is_picked p.schema.columns ps t) p.lo p.hi time (map (keyed t.number) (rows_in t.number p.lo p.hi all)) (within t.number p.lo p.hi all))
    (first_groups one) (tables_of p) (keys_first (λ k. k.ts ≤ LAST_TIMESTAMP) one)
