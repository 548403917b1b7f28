-- Which rows a query picks of a state, what a row query shows of them, and the header of any query's answer.
use Rattle.std.specs.Prelude.{ℕ, zero, suc, ◌+◌, ℤ, pos, negsuc, Bool, true, false, ◌==◌, if◌then◌else◌, List, [], ◌∷◌, ◌++◌, map, filter, length, drop, take, reverse, Option, Some, None, slice_get}
use Rattle.std.specs.declared.cmp.Ordering.{Ordering}
use Rattle.std.specs.Ordering.{nat_cmp, ordering_then}
use Rattle.std.specs.BTreeMap.{insert_entry}
use Rattle.std.specs.List.{filter_map, flat_map}
use Rattle.std.specs.Option.{unwrap_or}
use lib.Chars.{codes}
use Rattle.td_layer.specs.declared.values.Key.{Key}
use Rattle.td_layer.specs.declared.values.Row.{Row}
use Rattle.td_layer.specs.declared.values.Cell.{Cell}
use Rattle.td_layer.specs.declared.values.Cell.TheVariants as cell
use Rattle.td_layer.specs.declared.values.Func.{Func}
use Rattle.td_layer.specs.declared.values.Func.TheVariants.{Count, Sum, Min, Max, Avg, First, Last, Spread}
use Rattle.td_model.specs.declared.catalog.Column.{Column}
use Rattle.td_model.specs.declared.catalog.Schema.{Schema}
use Rattle.td_model.specs.declared.language.Item.{Item}
use Rattle.td_model.specs.declared.language.ItemKind.{ItemKind}
use Rattle.td_model.specs.declared.language.ItemKind.TheVariants as item
use Rattle.td_model.specs.declared.language.OrderBy.{OrderBy}
use Rattle.td_model.specs.declared.language.OrderBy.TheVariants as order
use Rattle.td_model.specs.declared.language.Query.{Query}
use Rattle.td_model.specs.Catalog.{Catalog}
use Rattle.td_model.specs.State.{State, Rows}
use Rattle.td_verdict.specs.declared.comparison.Comparison.{Comparison}
use Rattle.td_verdict.specs.Names.{names_of}
use Rattle.td_verdict.specs.Fields.{fields, row_cells, place_in, comparisons_of, all_hold}
use Rattle.td_verdict.specs.Queries.{reads_table, source_schema}
use Rattle.td_verdict.specs.Plans.{Numbered, source_tables}

-- ---- the rows that are picked

-- a row's cells, beside its key
abbrev pub Found : Type 0
Found = List (Key × List Cell)

-- the rows of a table
abbrev pub rows_of : ℕ → Rows → Rows
rows_of table rows = filter (λ (e : Key × Row). e.0.table == table) rows

abbrev pub found_row : List Column → Numbered → (Key × Row) → (Key × List Cell)
found_row columns t e = (e.0, row_cells columns t.1.name t.1.tags e.0.ts e.1.values)

-- the rows of a table of which all comparisons are true
abbrev pub found_in : List Column → List Comparison → Rows → Numbered → Found
found_in columns ps rows t =
    filter (λ (e : Key × List Cell). all_hold ps e.1) (map (found_row columns t) (rows_of t.0 rows))

-- keys are ordered by timestamp, then by table
abbrev pub time_cmp : Key → Key → Ordering
time_cmp a b = ordering_then (nat_cmp a.ts b.ts) (nat_cmp a.table b.table)

-- rows put one by one among others, in that order
abbrev pub put_in_time : Found → Found → Found
put_in_time found [] = found
put_in_time found (e ∷ es) = put_in_time (insert_entry time_cmp found e.0 e.1) es

-- the rows of the tables of the source of which every condition is true, by timestamp, then by table
abbrev pub picked_of : List Column → List Comparison → List Numbered → Rows → Found
picked_of columns ps tables rows = put_in_time [] (flat_map (found_in columns ps rows) tables)

abbrev pub picked : Query → State → Found
picked q s =
    picked_of (source_schema q.source s.catalog).columns (comparisons_of (source_schema q.source s.catalog) q.conds)
    (source_tables q.source s.catalog) s.rows

-- ---- what is shown

-- n places, from one on
abbrev pub places_from : ℕ → ℕ → List ℕ
places_from place zero = []
places_from place (suc n) = place ∷ places_from (place + 1) n

-- what `*` names: the columns of a table, and of a supertable its columns and then its tags
abbrev pub star_fields : Bool → Schema → List Column
star_fields is_table s = if is_table then s.columns else fields s

abbrev pub item_place : Schema → ItemKind → Option ℕ
item_place s item.TbName = Some 0
item_place s (item.Col name) = place_in s name
item_place s _ = None

abbrev pub shown_places : Bool → Schema → Query → List ℕ
shown_places is_table s q =
    if q.star then places_from 1 (length (star_fields is_table s))
    else filter_map (λ (i : Item). item_place s i.what) q.items

abbrev pub shown : List ℕ → List Cell → List Cell
shown places cells = map (λ place. unwrap_or (slice_get cells place) cell.Null) places

-- ---- the answer

abbrev pub is_desc : OrderBy → Bool
is_desc (order.Desc name) = true
is_desc _ = false

-- the picked rows are in the order of their timestamps; DESC reverses the list
abbrev pub ordered : {X : Type 0} → OrderBy → List X → List X
ordered o rows = if is_desc o then reverse rows else rows

abbrev pub count_from : ℤ → ℕ
count_from (pos n) = n
count_from (negsuc n) = 0

abbrev pub limited : {X : Type 0} → Option ℤ → List X → List X
limited None rows = rows
limited (Some n) rows = take (count_from n) rows

-- OFFSET, then LIMIT
abbrev pub cut : {X : Type 0} → Query → List X → List X
cut q rows = limited q.limit (drop (count_from q.skip) rows)

abbrev pub answer_of : Query → List ℕ → Found → List (List Cell)
answer_of q places found = map (λ (e : Key × List Cell). shown places e.1) (cut q (ordered q.order found))

abbrev pub row_answer : Query → State → List (List Cell)
row_answer q s = answer_of q (shown_places (reads_table q s.catalog) (source_schema q.source s.catalog) q) (picked q s)

-- ---- the header: of each item its alias, or else its name

abbrev pub func_text : Func → List ℕ
func_text Count = codes "COUNT"
func_text Sum = codes "SUM"
func_text Min = codes "MIN"
func_text Max = codes "MAX"
func_text Avg = codes "AVG"
func_text First = codes "FIRST"
func_text Last = codes "LAST"
func_text Spread = codes "SPREAD"

abbrev pub item_text : ItemKind → List ℕ
item_text item.TbName = codes "TBNAME"
item_text (item.Col name) = name
item_text item.WStart = codes "_wstart"
item_text item.WEnd = codes "_wend"
item_text item.CountAll = codes "COUNT(*)"
item_text (item.Fun f name) = func_text f ++ codes "(" ++ name ++ codes ")"

abbrev pub item_title : Item → List ℕ
item_title i = unwrap_or i.alias (item_text i.what)

abbrev pub header_over : Bool → Schema → Query → List (List ℕ)
header_over is_table s q = if q.star then names_of (star_fields is_table s) else map item_title q.items

abbrev pub header : Query → Catalog → List (List ℕ)
header q c = header_over (reads_table q c) (source_schema q.source c) q
