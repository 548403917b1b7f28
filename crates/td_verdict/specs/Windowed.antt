-- The windows of a group's rows, and the cells of the select list for a window.
use Rattle.std.specs.Prelude.{ℕ, zero, suc, ◌+◌, ◌-◌, ◌*◌, ◌/◌, ◌%◌, min, max, ℤ, pos, ◌-ℤ◌, Bool, true, false, not, ◌&&◌, ◌==◌, if◌then◌else◌, List, [], ◌∷◌, map, filter, length, slice_get, Option, Some, None}
use Rattle.std.specs.Ordering.{int_eq}
use Rattle.std.specs.List.{range_with_len}
use Rattle.std.specs.Option.{unwrap_or, option_map_or}
use Rattle.td_aggr.specs.Aggregates.{aggregate}
use Rattle.td_layer.specs.declared.values.Cell.{Cell}
use Rattle.td_layer.specs.declared.values.Cell.TheVariants as cell
use Rattle.td_layer.specs.declared.values.Func.{Func}
use Rattle.td_layer.specs.declared.values.Func.TheVariants.{First, Last}
use Rattle.td_layer.specs.declared.values.Key.{Key}
use Rattle.td_layer.specs.declared.values.Row.{Row}
use Rattle.td_layer.specs.declared.values.Value.{Value}
use Rattle.td_layer.specs.declared.values.Value.TheVariants as value
use Rattle.td_model.specs.declared.catalog.Column.{Column}
use Rattle.td_model.specs.declared.language.ItemKind.{ItemKind}
use Rattle.td_model.specs.declared.language.ItemKind.TheVariants as item
use Rattle.td_model.specs.declared.language.PartBy.{PartBy}
use Rattle.td_model.specs.declared.language.WindowDef.{WindowDef}
use Rattle.td_model.specs.declared.language.WindowDef.TheVariants as window
use Rattle.td_verdict.specs.Names.{column_named}
use Rattle.td_verdict.specs.Values.{is_truth}
use Rattle.td_verdict.specs.Writes.{place_of}
use Rattle.td_window.specs.Spans.{time_of}
use Rattle.td_window.specs.Windows.{Window, interval_window, session_windows, state_windows}
use Rattle.td_verdict.specs.Parts.{part_cell}

-- a row with its key, and a window of such rows
abbrev pub Keyed : Type 0
Keyed = Key × Row

abbrev pub Windows : Type 0
Windows = List (Window Keyed)

-- ---- columns

-- what a row holds in the column at a place: its timestamp in the first, and NULL where there is none
abbrev pub value_at : Option ℕ → Keyed → Value
value_at None e = value.Null
value_at (Some zero) e = value.Num (pos e.0.ts)
value_at (Some (suc place)) e = unwrap_or (slice_get e.1.values place) value.Null

abbrev pub value_in : List Column → List ℕ → Keyed → Value
value_in columns name e = value_at (place_of columns name) e

-- ---- interval windows

-- the least and the greatest timestamp of rows
abbrev pub first_time : ℕ → List Keyed → ℕ
first_time t [] = t
first_time t (e ∷ es) = min e.0.ts (first_time t es)

abbrev pub last_time : ℕ → List Keyed → ℕ
last_time t [] = t
last_time t (e ∷ es) = max e.0.ts (last_time t es)

-- Windows start at offset + j * slide for every whole j. The window of a turn is the one that ends at phase + turn *
-- slide, where the phase is what the ends leave when they are divided by the slide: it is 0 or more, also where the
-- start is less.
abbrev pub start_of_turn : ℕ → ℕ → ℕ → ℕ → ℤ
start_of_turn len offset slide turn = pos ((offset + len) % slide + turn * slide) -ℤ pos len

-- the turns of which one at least holds a row, if the rows lie from one timestamp to another, and maybe some more
abbrev pub turns_between : ℕ → ℕ → ℕ → ℕ → List ℕ
turns_between len slide first last = range_with_len (first / slide) ((last + len) / slide - first / slide + 1)

abbrev pub holds_row : Window Keyed → Bool
holds_row w = not (length w.rows == 0)

-- the interval windows that hold a row, by their starts
abbrev pub interval_windows : ℕ → ℕ → ℕ → List Keyed → Windows
interval_windows len offset slide [] = []
interval_windows len offset slide (e ∷ es) =
    filter holds_row (map (λ turn. interval_window time_of len (e ∷ es) (start_of_turn len offset slide turn))
    (turns_between len slide (first_time e.0.ts es) (last_time e.0.ts es)))

-- ---- the windows of a query

-- without a window clause all rows are one window, also where there is none
abbrev pub whole_window : List Keyed → Window Keyed
whole_window rows = record { start = pos 0; end = pos 0; rows = rows }

abbrev pub windows_of : List Column → WindowDef → List Keyed → Windows
windows_of columns window.Whole rows = whole_window rows ∷ []
windows_of columns (window.Interval len offset slide) rows = interval_windows len offset slide rows
windows_of columns (window.Session column tol) rows = session_windows time_of tol rows
windows_of columns (window.State column) rows = state_windows time_of (value_in columns column) rows

-- ---- cells

-- FIRST and LAST of a BOOL give a truth value
abbrev pub is_end : Func → Bool
is_end First = true
is_end Last = true
is_end _ = false

abbrev pub truth_cell : Cell → Cell
truth_cell (cell.Num n) = cell.Truth (int_eq n (pos 1))
truth_cell c = c

abbrev pub has_truths : List Column → List ℕ → Bool
has_truths columns name = option_map_or (λ (c : Column). is_truth c.kind) (column_named columns name) false

-- an aggregate of a column over rows
abbrev pub column_aggregate : List Column → Func → List ℕ → List Keyed → Cell
column_aggregate columns f name rows = aggregate f (map (λ (e : Keyed). (e.0, value_in columns name e)) rows)

abbrev pub aggregate_cell : List Column → Func → List ℕ → List Keyed → Cell
aggregate_cell columns f name rows =
    if is_end f && has_truths columns name then truth_cell (column_aggregate columns f name rows)
    else column_aggregate columns f name rows

-- an item's cell for a window of a group
abbrev pub item_cell : List Column → List PartBy → List Cell → Window Keyed → ItemKind → Cell
item_cell columns parts cells w item.WStart = cell.Num w.start
item_cell columns parts cells w item.WEnd = cell.Num w.end
item_cell columns parts cells w item.CountAll = cell.Num (pos (length w.rows))
item_cell columns parts cells w (item.Fun f name) = aggregate_cell columns f name w.rows
item_cell columns parts cells w i = part_cell parts cells i
