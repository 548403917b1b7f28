-- The picked rows of a source, partitioned by the cells of the PARTITION BY items.
use Rattle.std.specs.Prelude.{ℕ, Bool, not, ◌&&◌, ◌||◌, ◌==◌, if◌then◌else◌, List, [], ◌∷◌, map, filter, length}
use Rattle.std.specs.Ordering.{match_ordering}
use Rattle.std.specs.BTreeMap.{insert_entry}
use Rattle.td_layer.specs.declared.values.Cell.{Cell}
use Rattle.td_layer.specs.declared.values.Key.{Key}
use Rattle.td_layer.specs.declared.values.Row.{Row}
use Rattle.td_model.specs.Built.{is_whole}
use Rattle.td_model.specs.declared.catalog.Column.{Column}
use Rattle.td_model.specs.declared.catalog.Schema.{Schema}
use Rattle.td_model.specs.declared.language.Query.{Query}
use Rattle.td_model.specs.State.{State, Rows}
use Rattle.td_verdict.specs.declared.comparison.Comparison.{Comparison}
use Rattle.td_verdict.specs.Answers.{time_cmp, rows_of}
use Rattle.td_verdict.specs.Fields.{row_cells, comparisons_of, all_hold}
use Rattle.td_verdict.specs.Parts.{part_cmp, part_of}
use Rattle.td_verdict.specs.Plans.{Numbered, source_tables}
use Rattle.td_verdict.specs.Queries.{source_schema}

-- ---- tables

-- a table: its number, the cells that the PARTITION BY items give for it, its name and its tags
pub record Listed : Type 0 where
  pub number : ℕ
  pub part : List Cell
  pub name : List ℕ
  pub tags : List Cell

abbrev pub listed_table : Schema → Query → Numbered → Listed
listed_table s q t = record {
  number = t.0;
  part = part_of s q.parts t.1.name t.1.tags;
  name = t.1.name;
  tags = t.1.tags;
}

-- ---- the rows that are picked

-- a row's cells, as conditions and row queries see them
abbrev pub cells_of : List Column → Listed → Key × Row → List Cell
cells_of columns t e = row_cells columns t.name t.tags e.0.ts e.1.values

-- whether all conditions are true of a row of a table
abbrev pub is_picked : List Column → List Comparison → Listed → Key × Row → Bool
is_picked columns ps t e = all_hold ps (cells_of columns t e)

-- the rows of a table of which all conditions are true
abbrev pub picked_rows : List Column → List Comparison → Rows → Listed → Rows
picked_rows columns ps rows t = filter (is_picked columns ps t) (rows_of t.number rows)

-- rows put one by one among others, by timestamp, then by table
abbrev pub put_rows : Rows → Rows → Rows
put_rows rows [] = rows
put_rows rows (e ∷ es) = insert_entry time_cmp (put_rows rows es) e.0 e.1

-- ---- groups

-- a group: the cells of the PARTITION BY items, and the picked rows of the tables that have these cells, by timestamp,
-- then by table
pub record Grouped : Type 0 where
  pub part : List Cell
  pub rows : Rows

abbrev pub with_rows : Grouped → Rows → Grouped
with_rows g rows = record { part = g.part; rows = put_rows g.rows rows }

abbrev pub empty_group : List Cell → Grouped
empty_group part = record { part = part; rows = [] }

-- Rows put into the group of a part. Groups stand in the order of their parts, each part once.
abbrev pub put_group : List Cell → Rows → List Grouped → List Grouped
put_group part rows [] = with_rows (empty_group part) rows ∷ []
put_group part rows (g ∷ gs) =
    match_ordering (part_cmp part g.part) (with_rows (empty_group part) rows ∷ g ∷ gs) (with_rows g rows ∷ gs)
    (g ∷ put_group part rows gs)

-- the picked rows of tables, each put into the group of its table's part
abbrev pub put_tables : (Listed → Rows) → List Grouped → List Listed → List Grouped
put_tables picked groups [] = groups
put_tables picked groups (t ∷ ts) = put_tables picked (put_group t.part (picked t) groups) ts

-- without PARTITION BY and window there is exactly one group, also over no row
abbrev pub has_one_group : Query → Bool
has_one_group q = is_whole q.window && (length q.parts == 0)

abbrev pub first_groups : Bool → List Grouped
first_groups one = if one then empty_group [] ∷ [] else []

-- else only groups that hold a row exist
abbrev pub has_rows : Grouped → Bool
has_rows g = not (length g.rows == 0)

abbrev pub is_shown : Bool → Grouped → Bool
is_shown one g = one || has_rows g

abbrev pub groups_from : Bool → (Listed → Rows) → List Listed → List Grouped
groups_from one picked tables = filter (is_shown one) (put_tables picked (first_groups one) tables)

-- the picked rows of a query in a state by the cells of the PARTITION BY items, in the order of these
abbrev pub groups_in : Query → Schema → List Numbered → Rows → List Grouped
groups_in q s tables rows =
    groups_from (has_one_group q) (picked_rows s.columns (comparisons_of s q.conds) rows)
    (map (listed_table s q) tables)

abbrev pub groups : Query → State → List Grouped
groups q s = groups_in q (source_schema q.source s.catalog) (source_tables q.source s.catalog) s.rows
