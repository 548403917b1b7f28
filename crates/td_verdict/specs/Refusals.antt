-- Which queries are refused for their select list and their windows.
use Rattle.std.specs.Prelude.{ℕ, ◌*◌, Bool, true, false, not, ◌&&◌, ◌||◌, ◌==◌, nat_le, nat_lt, List, length, is_some}
use Rattle.std.specs.List.{list_any}
use Rattle.std.specs.Str.{bytes_eq}
use lib.Chars.{codes}
use Rattle.std.specs.Option.{option_map_or}
use Rattle.td_cols.specs.declared.kinds.Kind.{Kind}
use Rattle.td_layer.specs.declared.values.Func.{Func}
use Rattle.td_layer.specs.declared.values.Func.TheVariants.{Count, Sum, Min, Max, Avg, First, Last, Spread}
use Rattle.td_limits.specs.declared.limits.TheConstants.{WINDOWS_OF_A_ROW}
use Rattle.td_model.specs.Built.{is_aggregate, is_whole}
use Rattle.td_model.specs.declared.catalog.Column.{Column}
use Rattle.td_model.specs.declared.catalog.Schema.{Schema}
use Rattle.td_model.specs.declared.language.Item.{Item}
use Rattle.td_model.specs.declared.language.ItemKind.{ItemKind}
use Rattle.td_model.specs.declared.language.ItemKind.TheVariants as item
use Rattle.td_model.specs.declared.language.OrderBy.{OrderBy}
use Rattle.td_model.specs.declared.language.OrderBy.TheVariants as order
use Rattle.td_model.specs.declared.language.PartBy.{PartBy}
use Rattle.td_model.specs.declared.language.PartBy.TheVariants as part
use Rattle.td_model.specs.declared.language.Query.{Query}
use Rattle.td_model.specs.declared.language.WindowDef.{WindowDef}
use Rattle.td_model.specs.declared.language.WindowDef.TheVariants as window
use Rattle.td_verdict.specs.Names.{column_named, is_first, is_time}
use Rattle.td_verdict.specs.Streams.{is_plain, is_long}
use Rattle.td_verdict.specs.Values.{is_text, is_truth}
use Rattle.td_verdict.specs.Parts.{is_part}

-- ---- the select list

abbrev pub has_aggregate : Query → Bool
has_aggregate q = list_any (λ (i : Item). is_aggregate i.what) q.items

abbrev pub has_window : Query → Bool
has_window q = not (is_whole q.window)

abbrev pub has_parts : Query → Bool
has_parts q = not (length q.parts == 0)

-- an answer of one row a group or a window, in place of the rows themselves
abbrev pub is_grouped : Query → Bool
is_grouped q = has_aggregate q || has_window q

-- `*` stands with PARTITION BY or a window
abbrev pub has_bad_star : Query → Bool
has_bad_star q = q.star && (has_parts q || has_window q)

-- PARTITION BY stands without an aggregate and without a window
abbrev pub has_idle_parts : Query → Bool
has_idle_parts q = has_parts q && not (is_grouped q)

-- a column, a tag or TBNAME
abbrev pub is_of_row : ItemKind → Bool
is_of_row item.TbName = true
is_of_row (item.Col name) = true
is_of_row _ = false

-- one that is no PARTITION BY item, in a query with an aggregate or a window
abbrev pub is_loose : Query → ItemKind → Bool
is_loose q i = is_of_row i && not (list_any (is_part i) q.parts)

abbrev pub has_loose_item : Query → Bool
has_loose_item q = is_grouped q && list_any (λ (i : Item). is_loose q i.what) q.items

-- a PARTITION BY item is a column
abbrev pub is_column : List Column → PartBy → Bool
is_column columns part.TbName = false
is_column columns (part.Tag name) = is_some (column_named columns name)

abbrev pub parts_by_column : Schema → Query → Bool
parts_by_column s q = list_any (is_column s.columns) q.parts

-- an item needs a window
abbrev pub needs_window : ItemKind → Bool
needs_window item.WStart = true
needs_window item.WEnd = true
needs_window _ = false

-- `_wstart` or `_wend` stands without a window
abbrev pub lacks_window : Query → Bool
lacks_window q = not (has_window q) && list_any (λ (i : Item). needs_window i.what) q.items

-- a whole number type
abbrev pub is_number : Kind → Bool
is_number k = not (is_truth k || is_time k || is_text k)

-- SUM and AVG take whole numbers, MIN, MAX and SPREAD timestamps too, COUNT, FIRST and LAST any column
abbrev pub takes : Func → Kind → Bool
takes Sum k = is_number k
takes Avg k = is_number k
takes Min k = is_number k || is_time k
takes Max k = is_number k || is_time k
takes Spread k = is_number k || is_time k
takes Count k = true
takes First k = true
takes Last k = true

-- an aggregate takes a tag, or a type that it doesn't take
abbrev pub is_misused : List Column → ItemKind → Bool
is_misused columns (item.Fun f name) =
    not (option_map_or (λ (c : Column). takes f c.kind) (column_named columns name) false)
is_misused columns _ = false

abbrev pub has_misuse : Schema → Query → Bool
has_misuse s q = list_any (λ (i : Item). is_misused s.columns i.what) q.items

-- the word of ORDER BY that names a window's start
abbrev pub is_window_start : List ℕ → Bool
is_window_start name = bytes_eq name (codes "_wstart")

-- the order is by another thing than the first column
abbrev pub is_order_other : List Column → OrderBy → Bool
is_order_other columns order.Plain = false
is_order_other columns (order.Asc name) = not (is_first columns name)
is_order_other columns (order.Desc name) = not (is_first columns name)

-- The order is by another thing than the first column of a row query, or the start of a window. An aggregate without a
-- window has no order.
abbrev pub is_not_start : OrderBy → Bool
is_not_start order.Plain = false
is_not_start (order.Asc name) = not (is_window_start name)
is_not_start (order.Desc name) = not (is_window_start name)

abbrev pub has_bad_order : Schema → Query → Bool
has_bad_order s q =
    (has_window q && is_not_start q.order) || (not (has_window q) && has_aggregate q && not (is_plain q.order))
    || (not (is_grouped q) && is_order_other s.columns q.order)

abbrev pub is_bad_selection : Schema → Query → Bool
is_bad_selection s q =
    has_bad_star q || has_idle_parts q || has_loose_item q || parts_by_column s q || lacks_window q || has_misuse s q
    || has_bad_order s q

-- ---- windows

-- an interval or slide is 0; the slide is greater than the interval; the interval is too many slides; the offset isn't
-- less than the interval; a duration is too long
abbrev pub is_bad_interval : ℕ → ℕ → ℕ → Bool
is_bad_interval len offset slide =
    (len == 0) || (slide == 0) || nat_lt len slide || nat_lt (WINDOWS_OF_A_ROW * slide) len || nat_le len offset
    || is_long len || is_long offset || is_long slide

-- a state's column is a tag or a timestamp
abbrev pub is_bad_state : List Column → List ℕ → Bool
is_bad_state columns name = option_map_or (λ (c : Column). is_time c.kind) (column_named columns name) true

abbrev pub is_tbname : PartBy → Bool
is_tbname part.TbName = true
is_tbname (part.Tag name) = false

-- whether the window clause of a query is refused, over a table or a supertable of a schema
abbrev pub is_bad_window : Bool → Schema → Query → WindowDef → Bool
is_bad_window of_table s q window.Whole = false
is_bad_window of_table s q (window.Interval len offset slide) = is_bad_interval len offset slide
is_bad_window of_table s q (window.Session column tol) = is_long tol || not (is_first s.columns column)
is_bad_window of_table s q (window.State column) =
    is_bad_state s.columns column || (not of_table && not (list_any is_tbname q.parts))

-- an interval's durations are out of their bounds
abbrev pub has_bad_bounds : WindowDef → Bool
has_bad_bounds (window.Interval len offset slide) = is_bad_interval len offset slide
has_bad_bounds w = false
