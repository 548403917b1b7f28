-- Worked queries, checked by computing, in the state that these make:
--
--     CREATE STABLE meters (ts TIMESTAMP, voltage INT) TAGS (location BINARY(64), groupid INT)
--     CREATE TABLE d1 USING meters TAGS ('a', 2)
--     CREATE TABLE d2 USING meters TAGS (NULL, 3)
--     INSERT INTO d1 VALUES (5, 219) (15, NULL)
--     INSERT INTO d2 VALUES (4, 220) (15, 221)
--     CREATE TABLE e (ts TIMESTAMP, on BOOL)
--     INSERT INTO e VALUES (7, TRUE)
use Rattle.std.specs.Prelude.{◌≡◌, ℕ, pos, negsuc, true, false, List, [], ◌∷◌, Some, None, refl}
use lib.Chars.{codes}
use Rattle.td_cols.specs.declared.kinds.Kind.{Kind}
use Rattle.td_cols.specs.declared.kinds.Kind.TheVariants.{Bool as Truth, I32, Time, Text}
use Rattle.td_layer.specs.declared.values.Key.{Key}
use Rattle.td_layer.specs.declared.values.Row.{Row}
use Rattle.td_layer.specs.declared.values.Value.{Value}
use Rattle.td_layer.specs.declared.values.Value.TheVariants as value
use Rattle.td_layer.specs.declared.values.Cell.{Cell}
use Rattle.td_layer.specs.declared.values.Cell.TheVariants as cell
use Rattle.td_layer.specs.declared.values.Func.TheVariants.{Avg, Count, Sum}
use Rattle.td_model.specs.declared.catalog.Column.{Column}
use Rattle.td_model.specs.declared.language.Lit.{Lit}
use Rattle.td_model.specs.declared.language.Lit.TheVariants as lit
use Rattle.td_model.specs.declared.language.Op.{Op}
use Rattle.td_model.specs.declared.language.Op.TheVariants as op
use Rattle.td_model.specs.declared.language.PartBy.TheVariants as part
use Rattle.td_model.specs.declared.language.Cond.{Cond}
use Rattle.td_model.specs.declared.language.Item.{Item}
use Rattle.td_model.specs.declared.language.ItemKind.{ItemKind}
use Rattle.td_model.specs.declared.language.ItemKind.TheVariants as item
use Rattle.td_model.specs.declared.language.OrderBy.TheVariants as order
use Rattle.td_model.specs.declared.language.WindowDef.TheVariants as window
use Rattle.td_model.specs.declared.language.Query.{Query}
use Rattle.td_model.specs.declared.history.Verdict.{Verdict}
use Rattle.td_model.specs.declared.history.Verdict.TheVariants.{Pass, Refuse}
use Rattle.td_model.specs.declared.report.Cause.TheVariants.{UnknownTable, UnknownColumn, TypeMismatch, BadSelect, BadWindow, BadLimit}
use Rattle.td_model.specs.Catalog.{Catalog}
use Rattle.td_model.specs.State.{State, empty_state}
use Rattle.td_verdict.specs.Queries.{query_verdict}
use Rattle.td_verdict.specs.Plans.{plan_of}
use Rattle.td_verdict.specs.Answered.{answer}
use Rattle.td_verdict.specs.Answers.{header}

abbrev column : List ℕ → Kind → Column
column name kind = record { name = name; kind = kind }

abbrev catalog : Catalog
catalog = record {
  stables = record { name = codes "meters"; schema = record { columns = column (codes "ts") Time ∷ column (codes "voltage") I32 ∷ []; tags = column (codes "location") (Text 64) ∷ column (codes "groupid") I32 ∷ [] } } ∷ [];
  tables = record { name = codes "d1"; parent = Some 1; columns = []; tags = cell.Str (codes "a") ∷ cell.Num (pos 2) ∷ [] }
      ∷ record { name = codes "d2"; parent = Some 1; columns = []; tags = cell.Null ∷ cell.Num (pos 3) ∷ [] }
      ∷ record { name = codes "e"; parent = None; columns = column (codes "ts") Time ∷ column (codes "on") Truth ∷ []; tags = [] } ∷ [];
  streams = [];
  next_stream = 1;
}

abbrev row : ℕ → ℕ → Value → Key × Row
row table ts v = (record { table = table; ts = ts }, record { birth = record { born = 9 }; values = v ∷ [] })

abbrev state : State
state = record empty_state { catalog = catalog; rows = row 1 5 (value.Num (pos 219)) ∷ row 1 15 value.Null ∷ row 2 4 (value.Num (pos 220)) ∷ row 2 15 (value.Num (pos 221)) ∷ row 3 7 (value.Num (pos 1)) ∷ [] }

abbrev all_of : List ℕ → List Cond → Query
all_of source conds = record { star = true; items = []; source = source; conds = conds; parts = []; window = window.Whole; order = order.Plain; skip = pos 0; limit = None }

abbrev plain : List ItemKind → List Item
plain [] = []
plain (i ∷ is) = record { what = i; alias = None } ∷ plain is

abbrev some_of : List ItemKind → List ℕ → List Cond → Query
some_of items source conds = record (all_of source conds) { star = false; items = plain items }

abbrev where_ : List ℕ → Op → Lit → Cond
where_ name o l = record { of = part.Tag name; op = o; lit = l }

abbrev num : ℕ → Cell
num n = cell.Num (pos n)

abbrev str : List ℕ → Cell
str text = cell.Str text

abbrev met : Query → Verdict
met q = query_verdict q catalog

-- a condition on a tag picks one subtable
by_tag : answer (some_of (item.TbName ∷ item.Col (codes "voltage") ∷ []) (codes "meters") (where_ (codes "groupid") op.Eq (lit.Num (pos 3)) ∷ [])) state
    ≡ (str (codes "d2") ∷ num 220 ∷ []) ∷ (str (codes "d2") ∷ num 221 ∷ []) ∷ []
by_tag = refl

its_tables : (plan_of (all_of (codes "meters") (where_ (codes "groupid") op.Eq (lit.Num (pos 3)) ∷ [])) catalog).tables ≡ 2 ∷ []
its_tables = refl

-- rows lie by timestamp, then by table; `*` over a supertable gives its tags behind its columns
star_of_a_supertable : answer (all_of (codes "meters") []) state
    ≡ (num 4 ∷ num 220 ∷ cell.Null ∷ num 3 ∷ []) ∷ (num 5 ∷ num 219 ∷ str (codes "a") ∷ num 2 ∷ []) ∷ (num 15 ∷ cell.Null ∷ str (codes "a") ∷ num 2 ∷ []) ∷ (num 15 ∷ num 221 ∷ cell.Null ∷ num 3 ∷ []) ∷ []
star_of_a_supertable = refl

its_header : header (all_of (codes "meters") []) catalog ≡ codes "ts" ∷ codes "voltage" ∷ codes "location" ∷ codes "groupid" ∷ []
its_header = refl

-- over a subtable `*` gives the columns alone
star_of_a_subtable : answer (all_of (codes "d1") []) state ≡ (num 5 ∷ num 219 ∷ []) ∷ (num 15 ∷ cell.Null ∷ []) ∷ []
star_of_a_subtable = refl

a_truth_value : answer (all_of (codes "e") (where_ (codes "on") op.Eq lit.True ∷ [])) state ≡ (num 7 ∷ cell.Truth true ∷ []) ∷ []
a_truth_value = refl

-- a comparison with NULL is false, also where the operator is `<>`
null_is_not_unequal : answer (some_of (item.Col (codes "ts") ∷ []) (codes "d1") (where_ (codes "voltage") op.Ne (lit.Num (pos 0)) ∷ [])) state ≡ (num 5 ∷ []) ∷ []
null_is_not_unequal = refl

is_null : answer (some_of (item.Col (codes "ts") ∷ []) (codes "meters") (where_ (codes "location") op.IsNull lit.Null ∷ [])) state ≡ (num 4 ∷ []) ∷ (num 15 ∷ []) ∷ []
is_null = refl

-- DESC reverses the list; OFFSET comes before LIMIT
the_last_but_one : answer (record (some_of (item.TbName ∷ item.Col (codes "ts") ∷ []) (codes "meters") []) { order = order.Desc (codes "ts"); skip = pos 1; limit = Some (pos 2) }) state
    ≡ (str (codes "d1") ∷ num 15 ∷ []) ∷ (str (codes "d1") ∷ num 5 ∷ []) ∷ []
the_last_but_one = refl

-- ---- aggregates, windows and PARTITION BY

-- `SELECT location, _wstart, AVG(voltage) FROM meters PARTITION BY location INTERVAL(10a)`
abbrev by_location : Query
by_location = record (some_of (item.Col (codes "location") ∷ item.WStart ∷ item.Fun Avg (codes "voltage") ∷ []) (codes "meters") [])
    { parts = part.Tag (codes "location") ∷ []; window = window.Interval 10 0 10 }

-- NULL comes before texts, and the windows of a group by their starts; AVG of NULLs alone is NULL
averages : answer by_location state
    ≡ (cell.Null ∷ num 0 ∷ cell.Frac (pos 220) 1 ∷ []) ∷ (cell.Null ∷ num 10 ∷ cell.Frac (pos 221) 1 ∷ [])
    ∷ (str (codes "a") ∷ num 0 ∷ cell.Frac (pos 219) 1 ∷ []) ∷ (str (codes "a") ∷ num 10 ∷ cell.Null ∷ []) ∷ []
averages = refl

their_header : header by_location catalog ≡ codes "location" ∷ codes "_wstart" ∷ codes "AVG(voltage)" ∷ []
their_header = refl

-- ORDER BY _wstart DESC is the ascending list reversed, in which windows of one start keep their order
latest : answer (record by_location { order = order.Desc (codes "_wstart"); limit = Some (pos 1) }) state
    ≡ (str (codes "a") ∷ num 10 ∷ cell.Null ∷ []) ∷ []
latest = refl

abbrev counts : Query
counts = some_of (item.CountAll ∷ item.Fun Count (codes "voltage") ∷ item.Fun Sum (codes "voltage") ∷ []) (codes "meters") []

-- a row of NULL is counted, and its value isn't
all_rows : answer counts state ≡ (num 4 ∷ num 3 ∷ num 660 ∷ []) ∷ []
all_rows = refl

abbrev late : List Cond
late = where_ (codes "ts") op.Gt (lit.Num (pos 100)) ∷ []

-- over no row there is one row without a window and PARTITION BY, and none with
over_no_row : answer (record counts { conds = late }) state ≡ (num 0 ∷ num 0 ∷ cell.Null ∷ []) ∷ []
over_no_row = refl

no_window : answer (record counts { conds = late; window = window.Interval 10 0 10 }) state ≡ []
no_window = refl

no_group : answer (record by_location { conds = late }) state ≡ []
no_group = refl

-- the cells of PARTITION BY stand in the plan, one list a table
its_parts : (plan_of by_location catalog).parts ≡ (str (codes "a") ∷ []) ∷ (cell.Null ∷ []) ∷ []
its_parts = refl

-- ---- timestamps

-- the ends of the timestamps are both included
from_above : (plan_of (all_of (codes "d1") (where_ (codes "ts") op.Gt (lit.Num (pos 5)) ∷ where_ (codes "ts") op.Lt (lit.Num (pos 15)) ∷ [])) catalog).lo ≡ 6
from_above = refl

to_below : (plan_of (all_of (codes "d1") (where_ (codes "ts") op.Gt (lit.Num (pos 5)) ∷ where_ (codes "ts") op.Lt (lit.Num (pos 15)) ∷ [])) catalog).hi ≡ 14
to_below = refl

-- ---- causes

no_table : met (all_of (codes "x") []) ≡ Refuse UnknownTable
no_table = refl

no_column : met (record (some_of (item.Col (codes "volts") ∷ []) (codes "meters") (where_ (codes "voltage") op.Eq lit.True ∷ [])) { skip = negsuc 0 }) ≡ Refuse UnknownColumn
no_column = refl

a_truth_at_a_number : met (record (all_of (codes "meters") (where_ (codes "voltage") op.Eq lit.True ∷ [])) { order = order.Asc (codes "voltage") }) ≡ Refuse (TypeMismatch (codes "voltage"))
a_truth_at_a_number = refl

a_number_at_tbname : met (all_of (codes "meters") (record { of = part.TbName; op = op.Eq; lit = lit.Num (pos 1) } ∷ [])) ≡ Refuse (TypeMismatch (codes "tbname"))
a_number_at_tbname = refl

-- a literal in a comparison has no range to keep
a_wide_number : met (all_of (codes "meters") (where_ (codes "voltage") op.Lt (lit.Num (pos 4294967296)) ∷ [])) ≡ Pass
a_wide_number = refl

by_another_column : met (record (some_of (item.Col (codes "voltage") ∷ []) (codes "meters") []) { order = order.Asc (codes "voltage"); limit = Some (negsuc 0) }) ≡ Refuse BadSelect
by_another_column = refl

a_window_without_windows : met (some_of (item.WStart ∷ []) (codes "e") []) ≡ Refuse BadSelect
a_window_without_windows = refl

below_no_row : met (record (all_of (codes "meters") []) { limit = Some (negsuc 0) }) ≡ Refuse BadLimit
below_no_row = refl

-- ---- causes of select lists and windows

a_window_passes : met by_location ≡ Pass
a_window_passes = refl

a_loose_column : met (some_of (item.Col (codes "voltage") ∷ item.CountAll ∷ []) (codes "meters") []) ≡ Refuse BadSelect
a_loose_column = refl

no_column_of_a_window : met (record by_location { window = window.State (codes "volts") }) ≡ Refuse UnknownColumn
no_column_of_a_window = refl

no_column_of_an_aggregate : met (some_of (item.Fun Sum (codes "volts") ∷ []) (codes "meters") []) ≡ Refuse UnknownColumn
no_column_of_an_aggregate = refl

no_part : met (record counts { parts = part.Tag (codes "place") ∷ [] }) ≡ Refuse UnknownColumn
no_part = refl

too_many_slides : met (record counts { window = window.Interval 1025000 0 1000 }) ≡ Refuse BadWindow
too_many_slides = refl

as_many_slides_as_may_be : met (record counts { window = window.Interval 1024000 0 1000 }) ≡ Pass
as_many_slides_as_may_be = refl

-- states of a supertable are cut table by table, and those of a table need no PARTITION BY
states_of_many : met (record counts { window = window.State (codes "voltage") }) ≡ Refuse BadWindow
states_of_many = refl

states_of_each : met (record counts { window = window.State (codes "voltage"); parts = part.TbName ∷ [] }) ≡ Pass
states_of_each = refl

states_of_one : met (record counts { source = codes "d1"; window = window.State (codes "voltage") }) ≡ Pass
states_of_one = refl
