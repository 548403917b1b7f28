-- What a plan reads, and the groups of the rows that it picks.
use Rattle.std.specs.Prelude.{ℕ, Bool, if◌then◌else◌, List, [], ◌∷◌, map, filter}
use Rattle.std.specs.List.{flat_map}
use Rattle.td_layer.specs.Scans.{rows_in}
use Rattle.td_layer.specs.declared.values.Cell.{Cell}
use Rattle.td_layer.specs.declared.values.Key.{Key}
use Rattle.td_layer.specs.declared.values.Row.{Row}
use Rattle.td_model.specs.Built.{is_row_query}
use Rattle.td_model.specs.State.{Rows}
use Rattle.td_model.specs.declared.catalog.Column.{Column}
use Rattle.td_model.specs.declared.plan.Plan.{Plan}
use Rattle.td_verdict.specs.Answered.{answer_of_groups}
use Rattle.td_verdict.specs.Answers.{Found, put_in_time, answer_of, shown_places}
use Rattle.td_verdict.specs.Fields.{comparisons_of}
use Rattle.td_verdict.specs.Groups.{Listed, Grouped, cells_of, is_picked, groups_from, has_one_group}
use Rattle.td_verdict.specs.Plans.{reads_one}
use Rattle.td_verdict.specs.Windowed.{Keyed}
use Rattle.td_verdict.specs.declared.comparison.Comparison.{Comparison}

-- ---- the tables that are read

abbrev pub tables_from : List ℕ → List (List Cell) → List (List ℕ) → List (List Cell) → List Listed
tables_from [] parts names tags = []
tables_from (n ∷ ns) [] names tags = []
tables_from (n ∷ ns) (part ∷ parts) [] tags = []
tables_from (n ∷ ns) (part ∷ parts) (name ∷ names) [] = []
tables_from (n ∷ ns) (part ∷ parts) (name ∷ names) (cells ∷ tags) =
    record { number = n; part = part; name = name; tags = cells } ∷ tables_from ns parts names tags

abbrev pub tables_of : Plan → List Listed
tables_of p = tables_from p.tables p.parts p.names p.tags

-- ---- the rows that are picked

-- a table's row with its key
abbrev pub keyed : ℕ → ℕ × Row → Key × Row
keyed table e = (record { table = table; ts = e.0 }, e.1)

-- of rows of a table those of which all conditions are true
abbrev pub picked_from : List Column → List Comparison → Listed → List (ℕ × Row) → Rows
picked_from columns ps t found = filter (is_picked columns ps t) (map (keyed t.number) found)

-- the rows of a table in a range of timestamps of which all conditions are true
abbrev pub picked_in : Plan → List Comparison → Rows → Listed → Rows
picked_in p ps rows t = picked_from p.schema.columns ps t (rows_in t.number p.lo p.hi rows)

-- ---- groups

abbrev pub groups_over : Bool → Plan → List Comparison → Rows → List Grouped
groups_over one p ps rows = groups_from one (picked_in p ps rows) (tables_of p)

-- the picked rows by the cells of the PARTITION BY items, in the order of these
abbrev pub groups_of : Plan → List Comparison → Rows → List Grouped
groups_of p ps rows = groups_over (has_one_group p.query) p ps rows

-- ---- the answer of a plan

-- a row query shows the picked rows, by timestamp, then by table
abbrev pub found_in : Plan → List Comparison → Rows → Listed → Found
found_in p ps rows t = map (λ (e : Keyed). (e.0, cells_of p.schema.columns t e)) (picked_in p ps rows t)

abbrev pub found_of : Plan → List Comparison → Rows → Found
found_of p ps rows = put_in_time [] (flat_map (found_in p ps rows) (tables_of p))

abbrev pub row_answer : Plan → List Comparison → Rows → List (List Cell)
row_answer p ps rows = answer_of p.query (shown_places (reads_one p) p.schema p.query) (found_of p ps rows)

abbrev pub answer_over : Plan → List Comparison → Rows → List (List Cell)
answer_over p ps rows =
    if is_row_query p.query then row_answer p ps rows
    else answer_of_groups p.schema.columns p.query (groups_of p ps rows)

abbrev pub plan_answer : Plan → Rows → List (List Cell)
plan_answer p rows = answer_over p (comparisons_of p.schema p.query.conds) rows
