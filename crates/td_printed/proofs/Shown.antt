-- The cells of a window can be printed.
use Rattle.std.proofs.Common.{ℕ, zero, suc, ◌^◌, ◌<◌, pos, true, false, cond, ◌&&◌, ◌==◌, List, [], ◌∷◌, length, map, Option, Some, None, IfSome, arith, subst}
use Rattle.std.specs.Prelude.{◌-ℤ◌, position, slice_get, FitsSigned}
use Rattle.std.specs.Int.{w128}
use Rattle.std.specs.List.{AllByRecursion}
use Rattle.std.proofs.lemmas.Int.{ints}
use Rattle.std.proofs.lemmas.List.{length-map}
use Rattle.td_aggr.specs.Aggregates.{aggregate}
use Rattle.td_aggr.specs.Laws.{shows_aggregates}
use Rattle.td_aggr.specs.declared.tally.Tally.{Tally}
use Rattle.td_aggr.specs.Tallies as tallies
use Rattle.td_aggr.specs.Tallies.{Mark, tally_of, shown, cell_of_value, unless_none, cell_of_range, cell_of_mark}
use Rattle.td_aggr.proofs.Sound.{IsSound-tally_of, count-tally_of}
use Rattle.td_layer.specs.Columns.{IsColumnNumber, IsColumnValue}
use Rattle.td_layer.specs.declared.values.Cell.{Cell}
use Rattle.td_layer.specs.declared.values.Cell.TheVariants as cell
use Rattle.td_layer.specs.declared.values.Func.{Func}
use Rattle.td_layer.specs.declared.values.Func.TheVariants.{Count, Sum, Min, Max, Avg, First, Last, Spread}
use Rattle.td_layer.specs.declared.values.Key.{Key}
use Rattle.td_layer.specs.declared.values.Value.{Value}
use Rattle.td_layer.specs.declared.values.Value.TheVariants as value
use Rattle.td_model.specs.declared.catalog.Column.{Column}
use Rattle.td_model.specs.declared.language.Item.{Item}
use Rattle.td_model.specs.declared.language.ItemKind.{ItemKind}
use Rattle.td_model.specs.declared.language.ItemKind.TheVariants as item
use Rattle.td_model.specs.declared.language.PartBy.{PartBy}
use Rattle.td_model.specs.Printable.{IsPrintableCell, IsPrintableRow}
use Rattle.td_verdict.specs.Parts.{is_part}
use Rattle.td_verdict.specs.Windowed.{Keyed, value_at, value_in, truth_cell, is_end, has_truths, column_aggregate, aggregate_cell, item_cell}
use Rattle.td_verdict.specs.Writes.{place_of}
use Rattle.td_window.specs.Windows.{Window}
use Rattle.td_printed.proofs.Cells.{IsGood}
use Rattle.td_printed.proofs.Groups.{placed_prints}
use Rattle.td_printed.proofs.Lists.{either_value, if_at, all_mapped}
use Rattle.td_printed.proofs.Numbers.{between_fits, number_fits}
use Rattle.td_printed.proofs.Windows.{IsGoodWindow}

-- ---- what a tally shows

unless_prints : (count : ℕ) (c : Cell) → IsPrintableCell c → IsPrintableCell (unless_none count c)
unless_prints count c h = elim (count == 0) as (λ b. IsPrintableCell (cond b cell.Null c)) [ true ↦ tt | false ↦ h ]

value_prints : (v : Value) → IsColumnValue v → IsPrintableCell (cell_of_value v)
value_prints value.Null h = tt
value_prints (value.Num n) h = number_fits n h

range_prints : (low high : Value) → IsColumnValue low → IsColumnValue high → IsPrintableCell (cell_of_range low high)
range_prints value.Null high l h = tt
range_prints (value.Num m) value.Null l h = tt
range_prints (value.Num m) (value.Num n) l h = between_fits (n -ℤ m) (omega (arith, ints, l.1, h.0))
    (omega (arith, ints, l.0, h.1))

mark_prints : (m : Option Mark) → IfSome m (λ x. IsColumnNumber x.2) → IsPrintableCell (cell_of_mark m)
mark_prints None h = tt
mark_prints (Some m) h = number_fits m.2 h

sum_fits : (t : Tally) → tallies.IsSound t → t.count < 2 ^ 62 → FitsSigned w128 t.sum
sum_fits t sound few = between_fits t.sum (omega (arith, ints, sound.low, few)) (omega (arith, ints, sound.high, few))

count_fits : (n : ℕ) → n < 2 ^ 62 → FitsSigned w128 (pos n)
count_fits n few = record { sfits = omega (arith, few) }

shown_prints : (t : Tally) (f : Func) → tallies.IsSound t → t.count < 2 ^ 62 → IsPrintableCell (shown t f)
shown_prints t Count sound few = count_fits t.count few
shown_prints t Sum sound few = unless_prints t.count (cell.Num t.sum) (sum_fits t sound few)
shown_prints t Avg sound few = unless_prints t.count (cell.Frac t.sum t.count)
    (sum_fits t sound few, omega (arith, few))
shown_prints t Min sound few = value_prints t.min sound.min
shown_prints t Max sound few = value_prints t.max sound.max
shown_prints t Spread sound few = range_prints t.min t.max sound.min sound.max
shown_prints t First sound few = mark_prints t.first sound.first
shown_prints t Last sound few = mark_prints t.last sound.last

aggregate_prints : (f : Func) (rows : List (Key × Value)) → AllByRecursion (λ r. IsColumnValue r.1) rows
    → length rows < 2 ^ 62 → IsPrintableCell (aggregate f rows)
aggregate_prints f rows good few =
    let less = count-tally_of rows in
    subst IsPrintableCell (shows_aggregates f rows)
    (shown_prints (tally_of rows) f (IsSound-tally_of rows good) (omega (arith, less, few)))

-- ---- the cells of a window

placed_holds : (place : Option ℕ) (e : Keyed) → IsGood e → IsColumnValue (value_at place e)
placed_holds None e h = tt
placed_holds (Some zero) e h = (omega (arith, ints), omega (arith, ints, h.time))
placed_holds (Some (suc place)) e h = either_value IsColumnValue (slice_get e.1.values place) value.Null
    (if_at IsColumnValue e.1.values place h.values) tt

truth_prints : (c : Cell) → IsPrintableCell c → IsPrintableCell (truth_cell c)
truth_prints cell.Null h = tt
truth_prints (cell.Truth b) h = tt
truth_prints (cell.Num n) h = tt
truth_prints (cell.Frac sum count) h = h
truth_prints (cell.Str text) h = tt

column_prints : (columns : List Column) (f : Func) (name : List ℕ) (rows : List Keyed) → AllByRecursion IsGood rows
    → length rows < 2 ^ 62 → IsPrintableCell (column_aggregate columns f name rows)
column_prints columns f name rows good few =
    let keyed : Keyed → Key × Value = λ e. (e.0, value_in columns name e) in
    let long = length-map rows keyed in
    aggregate_prints f (map keyed rows)
    (all_mapped IsGood (λ (r : Key × Value). IsColumnValue r.1) keyed rows
    (λ e h. placed_holds (place_of columns name) e h) good) (omega (arith, long, few))

fun_prints : (columns : List Column) (f : Func) (name : List ℕ) (rows : List Keyed) → AllByRecursion IsGood rows
    → length rows < 2 ^ 62 → IsPrintableCell (aggregate_cell columns f name rows)
fun_prints columns f name rows good few =
    let plain = column_prints columns f name rows good few in
    elim (is_end f && has_truths columns name) as
    (λ b. IsPrintableCell
    (cond b (truth_cell (column_aggregate columns f name rows)) (column_aggregate columns f name rows)))
    [ true ↦ truth_prints (column_aggregate columns f name rows) plain | false ↦ plain ]

item_prints : (columns : List Column) (parts : List PartBy) (cells : List Cell) (w : Window Keyed)
    → IsPrintableRow cells → IsGoodWindow w → (i : ItemKind) → IsPrintableCell (item_cell columns parts cells w i)
item_prints columns parts cells w h good item.WStart = good.start
item_prints columns parts cells w h good item.WEnd = good.end
item_prints columns parts cells w h good item.CountAll = count_fits (length w.rows) good.few
item_prints columns parts cells w h good (item.Fun f name) = fun_prints columns f name w.rows good.rows good.few
item_prints columns parts cells w h good (item.Col name) =
    placed_prints cells (position (is_part (item.Col name)) parts) h
item_prints columns parts cells w h good item.TbName = placed_prints cells (position (is_part item.TbName) parts) h

pub window_prints : (columns : List Column) (parts : List PartBy) (cells : List Cell) (w : Window Keyed)
    (items : List Item) → IsPrintableRow cells → IsGoodWindow w
    → IsPrintableRow (map (λ (i : Item). item_cell columns parts cells w i.what) items)
window_prints columns parts cells w [] h good = tt
window_prints columns parts cells w (i ∷ items) h good =
    (item_prints columns parts cells w h good i.what, window_prints columns parts cells w items h good)
