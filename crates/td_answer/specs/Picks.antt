-- What a plan's tables, comparisons and range of timestamps pick of rows.
use Rattle.std.specs.Prelude.{ℕ, if◌then◌else◌, List, [], ◌∷◌, map, filter, Option, Some, None}
use Rattle.std.specs.BTreeMap.{insert_entry}
use Rattle.std.specs.List.{flat_map}
use Rattle.td_layer.specs.declared.values.Key.{Key}
use Rattle.td_layer.specs.declared.values.Row.{Row}
use Rattle.td_layer.specs.declared.values.Cell.{Cell}
use Rattle.td_model.specs.declared.catalog.Column.{Column}
use Rattle.td_model.specs.declared.plan.Plan.{Plan}
use Rattle.td_model.specs.State.{Rows, is_cut}
use Rattle.td_verdict.specs.declared.comparison.Comparison.{Comparison}
use Rattle.td_verdict.specs.Fields.{row_cells, all_hold}
use Rattle.td_verdict.specs.Answers.{Found, time_cmp, put_in_time}
use Rattle.td_answer.specs.declared.picks.TimeKey.{TimeKey}
use Rattle.td_answer.specs.declared.picks.Table.{Table}
use Rattle.td_answer.specs.declared.cells.Line.{Line}
use Rattle.td_answer.specs.Lines.{line_cells}

-- ---- rows by timestamp and table, as the definitions have them by key
abbrev pub key_of : TimeKey → Key
key_of k = record { table = k.table; ts = k.ts }

abbrev pub keyed : List Column → List (TimeKey × Line) → Found
keyed columns es = map (λ (e : TimeKey × Line). (key_of e.0, line_cells columns e.1)) es

-- rows with one more, if all comparisons are true of it
abbrev pub put_held : List Comparison → Found → Key × List Cell → Found
put_held ps found e = if all_hold ps e.1 then insert_entry time_cmp found e.0 e.1 else found

-- ---- what a plan reads

-- a table: its number, its name and its tags
pub record Listed : Type 0 where
  pub number : ℕ
  pub name : List ℕ
  pub tags : List Cell

abbrev pub listed : Table → Listed
listed t = record { number = t.number; name = t.name.now; tags = t.tags.now }

-- one by what may be missing
abbrev pub listed_by : Option ℕ → Option (List ℕ) → Option (List Cell) → Option Listed
listed_by None name tags = None
listed_by (Some n) None tags = None
listed_by (Some n) (Some name) None = None
listed_by (Some n) (Some name) (Some cells) = Some (record { number = n; name = name; tags = cells })

abbrev pub tables_from : List ℕ → List (List ℕ) → List (List Cell) → List Listed
tables_from [] names tags = []
tables_from (n ∷ ns) [] tags = []
tables_from (n ∷ ns) (name ∷ names) [] = []
tables_from (n ∷ ns) (name ∷ names) (cells ∷ tags) =
    record { number = n; name = name; tags = cells } ∷ tables_from ns names tags

abbrev pub tables_of : Plan → List Listed
tables_of p = tables_from p.tables p.names p.tags

-- ---- what is picked

-- the rows of a table in the plan's range of timestamps of which all comparisons are true
abbrev pub row_found : List Column → Listed → Key × Row → Key × List Cell
row_found columns t e = (record { table = t.number; ts = e.0.ts }, row_cells columns t.name t.tags e.0.ts e.1.values)

abbrev pub found_of : List Column → List Comparison → Listed → Rows → Found
found_of columns ps t rows = filter (λ (e : Key × List Cell). all_hold ps e.1) (map (row_found columns t) rows)

abbrev pub table_found : Plan → List Comparison → Rows → Listed → Found
table_found p ps rows t =
    found_of p.schema.columns ps t (filter (λ (e : Key × Row). is_cut t.number p.lo p.hi e.0) rows)

abbrev pub plan_found : Plan → List Comparison → Rows → Found
plan_found p ps rows = put_in_time [] (flat_map (table_found p ps rows) (tables_of p))
