-- The rows of an answer can be printed.
use Rattle.std.proofs.Common.{◌≡◌, ℕ, ◌^◌, ◌<◌, Bool, true, false, cond, List, [], ◌∷◌, length, Option, Some, None, refl, arith}
use Rattle.std.specs.Prelude.{int_le}
use Rattle.std.specs.List.{AllByRecursion, flat_map}
use Rattle.td_model.specs.declared.catalog.Column.{Column}
use Rattle.td_model.specs.declared.catalog.Schema.{Schema}
use Rattle.td_model.specs.declared.history.Verdict.{Verdict}
use Rattle.td_model.specs.declared.history.Verdict.TheVariants.{Pass}
use Rattle.td_model.specs.declared.language.OrderBy.{OrderBy}
use Rattle.td_model.specs.declared.language.OrderBy.TheVariants as order
use Rattle.td_model.specs.declared.language.Query.{Query}
use Rattle.td_model.specs.declared.language.WindowDef.{WindowDef}
use Rattle.td_model.specs.declared.language.WindowDef.TheVariants as window
use Rattle.td_model.specs.declared.report.Cause.{Cause}
use Rattle.td_model.specs.declared.report.Cause.TheVariants as cause
use Rattle.td_model.specs.declared.windows.WinRow.{WinRow}
use Rattle.td_model.specs.Built.{is_row_query}
use Rattle.td_model.specs.Catalog.{Catalog}
use Rattle.td_model.specs.Printable.{IsPrintableRow}
use Rattle.td_model.specs.State.{State}
use Rattle.td_verdict.specs.Answered.{window_row, window_rows, groups_answer, answer}
use Rattle.td_verdict.specs.Answers.{cut, row_answer}
use Rattle.td_verdict.specs.Arranged.{put_by_start, put_by_starts, arranged}
use Rattle.td_verdict.specs.Causes.{when, first_cause}
use Rattle.td_verdict.specs.Groups.{Grouped, groups}
use Rattle.td_verdict.specs.Queries.{reads_table, source_schema, has_unknown, mismatch_cause, is_bad_limit, source_cause, body_cause, query_cause, passes_or}
use Rattle.td_verdict.specs.Refusals.{is_bad_selection, is_bad_window, has_bad_bounds}
use Rattle.td_verdict.specs.Sound.{IsSound}
use Rattle.td_verdict.specs.Windowed.{windows_of}
use Rattle.td_printed.specs.Names.{IsCounted}
use Rattle.td_printed.proofs.Groups.{HasGoodRows, groups_good}
use Rattle.td_printed.proofs.Lists.{all_mapped, none_of_first, none_of_others, none_when, second_none}
use Rattle.td_printed.proofs.Rows.{all_flat, all_reversed, all_cut, row_answer_prints}
use Rattle.td_printed.proofs.Shown.{window_prints}
use Rattle.td_printed.proofs.Windows.{IsGoodWindow, windows_good}

-- ---- the windows of a query that passes are in bounds

passed : (why : Option Cause) → (let v : Verdict = Pass in v ≡ passes_or why) → why ≡ None
passed None h = refl
passed (Some why) h = absurd (cc)

window_fine : (of_table : Bool) (s : Schema) (q : Query) → body_cause of_table s q ≡ None
    → is_bad_window of_table s q q.window ≡ false
window_fine of_table s q h =
    let limit : List (Option Cause) = when (is_bad_limit q) cause.BadLimit ∷ [] in
    let bounds : Option Cause = when (is_bad_window of_table s q q.window) cause.BadWindow in
    let bad : Option Cause = when (is_bad_selection s q) cause.BadSelect in
    let some : Option Cause = mismatch_cause s q.conds in
    let unknown : Option Cause = when (has_unknown s q) cause.UnknownColumn in
    let fourth : first_cause (bounds ∷ limit) ≡ None = none_of_others bad (bounds ∷ limit)
    (none_of_others some (bad ∷ bounds ∷ limit) (none_of_others unknown (some ∷ bad ∷ bounds ∷ limit) h)) in
    none_when (is_bad_window of_table s q q.window) cause.BadWindow (none_of_first bounds limit fourth)

in_bounds : (of_table : Bool) (s : Schema) (q : Query) (w : WindowDef) → is_bad_window of_table s q w ≡ false
    → has_bad_bounds w ≡ false
in_bounds of_table s q window.Whole h = refl
in_bounds of_table s q (window.Interval len offset slide) h = h
in_bounds of_table s q (window.Session column tol) h = refl
in_bounds of_table s q (window.State column) h = refl

bounds_fine : (q : Query) (c : Catalog) → (let v : Verdict = Pass in v ≡ passes_or (query_cause q c))
    → has_bad_bounds q.window ≡ false
bounds_fine q c pass =
    let of_table : Bool = reads_table q c in
    let s : Schema = source_schema q.source c in
    in_bounds of_table s q q.window
    (window_fine of_table s q
    (second_none (source_cause q c) (body_cause of_table s q) (passed (query_cause q c) pass)))

-- ---- one row a window

abbrev WindowPrints : WinRow → Type 0
WindowPrints w = IsPrintableRow w.cells

group_prints : (columns : List Column) (q : Query) (n : ℕ) (g : Grouped) → has_bad_bounds q.window ≡ false
    → n < 2 ^ 62 → HasGoodRows n g → AllByRecursion WindowPrints (window_rows columns q g)
group_prints columns q n g bounds few h = all_mapped IsGoodWindow WindowPrints (window_row columns q g.part)
    (windows_of columns q.window g.rows)
    (λ w good. window_prints columns q.parts g.part w q.items h.part good)
    (windows_good columns q.window g.rows bounds h.rows (omega (arith, h.few, few)))

-- ---- their order

put_prints : (rows : List WinRow) (w : WinRow) → AllByRecursion WindowPrints rows → WindowPrints w
    → AllByRecursion WindowPrints (put_by_start rows w)
put_prints [] w h p = (p, tt)
put_prints (v ∷ vs) w h p =
    elim (int_le v.key.start w.key.start) as
    (λ b. AllByRecursion WindowPrints (cond b (v ∷ put_by_start vs w) (w ∷ v ∷ vs)))
    [ true ↦ (h.0, put_prints vs w h.1 p) | false ↦ (p, h) ]

all_put_print : (rows ws : List WinRow) → AllByRecursion WindowPrints rows → AllByRecursion WindowPrints ws
    → AllByRecursion WindowPrints (put_by_starts rows ws)
all_put_print rows [] h i = h
all_put_print rows (w ∷ ws) h i = all_put_print (put_by_start rows w) ws (put_prints rows w h i.0) i.1

arranged_print : (o : OrderBy) (rows : List WinRow) → AllByRecursion WindowPrints rows
    → AllByRecursion WindowPrints (arranged o rows)
arranged_print order.Plain rows h = h
arranged_print (order.Asc name) rows h = all_put_print [] rows tt h
arranged_print (order.Desc name) rows h =
    all_reversed WindowPrints (put_by_starts [] rows) (all_put_print [] rows tt h)

-- ---- the answer

groups_answer_prints : (q : Query) (s : State) → IsSound s → length s.rows < 2 ^ 62
    → has_bad_bounds q.window ≡ false → AllByRecursion IsPrintableRow (groups_answer q s)
groups_answer_prints q s sound few bounds =
    let columns : List Column = (source_schema q.source s.catalog).columns in
    let rows : List WinRow = flat_map (window_rows columns q) (groups q s) in
    all_mapped WindowPrints IsPrintableRow (λ (w : WinRow). w.cells) (cut q (arranged q.order rows)) (λ w h. h)
    (all_cut WindowPrints q (arranged q.order rows)
    (arranged_print q.order rows
    (all_flat (HasGoodRows (length s.rows)) WindowPrints (window_rows columns q) (groups q s)
    (λ g h. group_prints columns q (length s.rows) g bounds few h) (groups_good q s sound))))

few_rows : (s : State) → IsCounted s → length s.rows < 2 ^ 62
few_rows s counted = omega (arith, counted.rows)

pub answer_prints : (q : Query) (s : State) → IsSound s → IsCounted s
    → (let v : Verdict = Pass in v ≡ passes_or (query_cause q s.catalog)) → AllByRecursion IsPrintableRow (answer q s)
answer_prints q s sound counted pass =
    elim (is_row_query q) as (λ b. AllByRecursion IsPrintableRow (cond b (row_answer q s) (groups_answer q s))) [
      | true ↦ row_answer_prints q s sound
      | false ↦ groups_answer_prints q s sound (few_rows s counted) (bounds_fine q s.catalog pass)
    ]
