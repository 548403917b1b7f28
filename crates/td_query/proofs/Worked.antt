-- Worked answers, checked by computing.
use Rattle.std.specs.Prelude.{◌≡◌, ℕ, pos, negsuc, true, false, List, [], ◌∷◌, None, refl}
use lib.Chars.{codes}
use Rattle.td_cols.specs.declared.kinds.Kind.{Kind}
use Rattle.td_cols.specs.declared.kinds.Kind.TheVariants.{Bool as Truths, I32, Time, Text}
use Rattle.td_layer.specs.declared.values.Cell.{Cell}
use Rattle.td_layer.specs.declared.values.Cell.TheVariants as cell
use Rattle.td_layer.specs.declared.values.Func.TheVariants.{Count, Sum, Avg, First}
use Rattle.td_layer.specs.declared.values.Key.{Key}
use Rattle.td_layer.specs.declared.values.Row.{Row}
use Rattle.td_layer.specs.declared.values.Value.{Value}
use Rattle.td_layer.specs.declared.values.Value.TheVariants as value
use Rattle.td_limits.specs.declared.limits.TheConstants.{LAST_TIMESTAMP}
use Rattle.td_model.specs.State.{Rows}
use Rattle.td_model.specs.declared.catalog.Column.{Column}
use Rattle.td_model.specs.declared.catalog.Schema.{Schema}
use Rattle.td_model.specs.declared.language.Cond.{Cond}
use Rattle.td_model.specs.declared.language.Item.{Item}
use Rattle.td_model.specs.declared.language.ItemKind.{ItemKind}
use Rattle.td_model.specs.declared.language.ItemKind.TheVariants as item
use Rattle.td_model.specs.declared.language.Lit.TheVariants as lit
use Rattle.td_model.specs.declared.language.Op.TheVariants as op
use Rattle.td_model.specs.declared.language.OrderBy.{OrderBy}
use Rattle.td_model.specs.declared.language.OrderBy.TheVariants as order
use Rattle.td_model.specs.declared.language.PartBy.{PartBy}
use Rattle.td_model.specs.declared.language.PartBy.TheVariants as part
use Rattle.td_model.specs.declared.language.Query.{Query}
use Rattle.td_model.specs.declared.language.WindowDef.{WindowDef}
use Rattle.td_model.specs.declared.language.WindowDef.TheVariants as window
use Rattle.td_model.specs.declared.plan.Plan.{Plan}
use Rattle.td_query.specs.Planned.{plan_answer}
use Rattle.td_verdict.specs.Refusals.{is_bad_selection, is_bad_window}

abbrev column : List ℕ → Kind → Column
column name kind = record { name = name; kind = kind }

abbrev shows : ItemKind → Item
shows what = record { what = what; alias = None }

abbrev row : ℕ → ℕ → List Value → Key × Row
row table ts values = (record { table = table; ts = ts }, record { birth = record { born = 0 }; values = values })

abbrev num : ℕ → Value
num n = value.Num (pos n)

abbrev int : ℕ → Cell
int n = cell.Num (pos n)

abbrev asks : List Item → List PartBy → WindowDef → OrderBy → List Cond → Query
asks items parts w o conds = record { star = false; items = items; source = codes "t"; conds = conds; parts = parts; window = w; order = o; skip = pos 0; limit = None }

-- ---- meters: SELECT location, _wstart, AVG(voltage) FROM meters PARTITION BY location INTERVAL(10s)

abbrev meters : Schema
meters = record { columns = column (codes "ts") Time ∷ column (codes "voltage") I32 ∷ []; tags = column (codes "location") (Text 64) ∷ column (codes "groupid") I32 ∷ [] }

abbrev francisco : Cell
francisco = cell.Str (codes "California.SanFrancisco")

abbrev angeles : Cell
angeles = cell.Str (codes "California.LosAngeles")

abbrev by_location : Plan
by_location = record {
  query = asks (shows (item.Col (codes "location")) ∷ shows item.WStart ∷ shows (item.Fun Avg (codes "voltage")) ∷ []) (part.Tag (codes "location") ∷ []) (window.Interval 10000 0 10000) order.Plain [];
  tables = 1 ∷ 2 ∷ [];
  parts = (francisco ∷ []) ∷ (angeles ∷ []) ∷ [];
  tags = (francisco ∷ int 2 ∷ []) ∷ (angeles ∷ int 3 ∷ []) ∷ [];
  names = codes "d1001" ∷ codes "d1002" ∷ [];
  schema = meters;
  lo = 0;
  hi = LAST_TIMESTAMP;
  target = None;
}

abbrev measured : Rows
measured = row 1 1538577485000 (num 219 ∷ []) ∷ row 1 1538577495000 (num 218 ∷ []) ∷ row 2 1538577484000 (num 220 ∷ []) ∷ row 2 1538577496650 (num 221 ∷ []) ∷ []

voltages_by_location : plan_answer by_location measured ≡
    (angeles ∷ int 1538577480000 ∷ cell.Frac (pos 220) 1 ∷ [])
    ∷ (angeles ∷ int 1538577490000 ∷ cell.Frac (pos 221) 1 ∷ [])
    ∷ (francisco ∷ int 1538577480000 ∷ cell.Frac (pos 219) 1 ∷ [])
    ∷ (francisco ∷ int 1538577490000 ∷ cell.Frac (pos 218) 1 ∷ [])
    ∷ []
voltages_by_location = refl

-- ---- t (ts TIMESTAMP, v INT, b BOOL)

abbrev plain : Schema
plain = record { columns = column (codes "ts") Time ∷ column (codes "v") I32 ∷ column (codes "b") Truths ∷ []; tags = [] }

abbrev over_t : Query → Plan
over_t q = record { query = q; tables = 1 ∷ []; parts = [] ∷ []; tags = [] ∷ []; names = codes "t" ∷ []; schema = plain; lo = 0; hi = LAST_TIMESTAMP; target = None }

abbrev late : List Cond
late = record { of = part.Tag (codes "ts"); op = op.Gt; lit = lit.Num (pos 20000) } ∷ []

abbrev counted : List Item
counted = shows item.WStart ∷ shows item.WEnd ∷ shows item.CountAll ∷ []

abbrev two : Rows
two = row 1 9999 (num 1 ∷ num 1 ∷ []) ∷ row 1 10000 (num 2 ∷ num 0 ∷ []) ∷ []

-- no row: COUNT(*) is 0, SUM is NULL, and there is no window
count_of_none : plan_answer (over_t (asks (shows item.CountAll ∷ []) [] window.Whole order.Plain late)) two ≡ (int 0 ∷ []) ∷ []
count_of_none = refl

sum_of_none : plan_answer (over_t (asks (shows (item.Fun Sum (codes "v")) ∷ []) [] window.Whole order.Plain late)) two ≡ (cell.Null ∷ []) ∷ []
sum_of_none = refl

no_window_of_none : plan_answer (over_t (asks (shows item.CountAll ∷ []) [] (window.Interval 10000 0 10000) order.Plain late)) two ≡ []
no_window_of_none = refl

-- the end of an interval doesn't belong to it
interval_ends : plan_answer (over_t (asks counted [] (window.Interval 10000 0 10000) order.Plain [])) two ≡
    (int 0 ∷ int 10000 ∷ int 1 ∷ []) ∷ (int 10000 ∷ int 20000 ∷ int 1 ∷ []) ∷ []
interval_ends = refl

sliding : plan_answer (over_t (asks counted [] (window.Interval 3000 0 1000) order.Plain [])) two ≡
    (int 7000 ∷ int 10000 ∷ int 1 ∷ []) ∷ (int 8000 ∷ int 11000 ∷ int 2 ∷ []) ∷ (int 9000 ∷ int 12000 ∷ int 2 ∷ []) ∷ (int 10000 ∷ int 13000 ∷ int 1 ∷ []) ∷ []
sliding = refl

-- windows may start below 0; in descending order the last comes first
below_zero : plan_answer (over_t (asks counted [] (window.Interval 3000 0 1000) (order.Desc (codes "_wstart")) [])) (row 1 500 (num 1 ∷ []) ∷ []) ≡
    (int 0 ∷ int 3000 ∷ int 1 ∷ []) ∷ (cell.Num (negsuc 999) ∷ int 2000 ∷ int 1 ∷ []) ∷ (cell.Num (negsuc 1999) ∷ int 1000 ∷ int 1 ∷ []) ∷ []
below_zero = refl

-- a row without a state is in no window and ends none
null_state : plan_answer (over_t (asks counted [] (window.State (codes "v")) order.Plain [])) (row 1 1 (num 5 ∷ []) ∷ row 1 2 (value.Null ∷ []) ∷ row 1 3 (num 5 ∷ []) ∷ row 1 4 (num 6 ∷ []) ∷ []) ≡
    (int 1 ∷ int 3 ∷ int 2 ∷ []) ∷ (int 4 ∷ int 4 ∷ int 1 ∷ []) ∷ []
null_state = refl

-- a gap of the tolerance goes on, a greater one ends the session
sessions : plan_answer (over_t (asks counted [] (window.Session (codes "ts") 10000) order.Plain [])) (row 1 0 (num 0 ∷ []) ∷ row 1 10000 (num 0 ∷ []) ∷ row 1 20001 (num 0 ∷ []) ∷ []) ≡
    (int 0 ∷ int 10000 ∷ int 2 ∷ []) ∷ (int 20001 ∷ int 20001 ∷ int 1 ∷ []) ∷ []
sessions = refl

-- FIRST of a BOOL is a truth value, and COUNT of a column leaves out NULLs
first_truth : plan_answer (over_t (asks (shows (item.Fun First (codes "b")) ∷ shows (item.Fun Count (codes "v")) ∷ []) [] window.Whole order.Plain [])) (row 1 1 (value.Null ∷ num 1 ∷ []) ∷ row 1 2 (num 4 ∷ []) ∷ []) ≡
    (cell.Truth true ∷ int 1 ∷ []) ∷ []
first_truth = refl

-- ---- refusals

too_many_windows : is_bad_window true plain (over_t (asks counted [] window.Whole order.Plain [])).query (window.Interval 1025000 0 1000) ≡ true
too_many_windows = refl

column_beside_count : is_bad_selection plain (asks (shows (item.Col (codes "v")) ∷ shows item.CountAll ∷ []) [] window.Whole order.Plain []) ≡ true
column_beside_count = refl

sum_of_truths : is_bad_selection plain (asks (shows (item.Fun Sum (codes "b")) ∷ []) [] window.Whole order.Plain []) ≡ true
sum_of_truths = refl

good_by_location : is_bad_selection meters by_location.query ≡ false
good_by_location = refl
