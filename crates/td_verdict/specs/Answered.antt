-- The answer of a query in a state.
use Rattle.std.specs.Prelude.{if◌then◌else◌, List, map}
use Rattle.std.specs.List.{flat_map}
use Rattle.td_layer.specs.declared.values.Cell.{Cell}
use Rattle.td_model.specs.Built.{is_row_query}
use Rattle.td_model.specs.State.{State}
use Rattle.td_model.specs.declared.catalog.Column.{Column}
use Rattle.td_model.specs.declared.language.Item.{Item}
use Rattle.td_model.specs.declared.language.Query.{Query}
use Rattle.td_model.specs.declared.windows.WinRow.{WinRow}
use Rattle.td_verdict.specs.Answers.{row_answer}
use Rattle.td_verdict.specs.Arranged.{answer_of_rows}
use Rattle.td_verdict.specs.Groups.{Grouped, groups}
use Rattle.td_verdict.specs.Queries.{source_schema}
use Rattle.td_verdict.specs.Windowed.{Keyed, windows_of, item_cell}
use Rattle.td_window.specs.Windows.{Window}

-- ---- one row a window

abbrev pub window_row : List Column → Query → List Cell → Window Keyed → WinRow
window_row columns q part w = record {
  key = record { part = part; start = w.start };
  end = w.end;
  cells = map (λ (i : Item). item_cell columns q.parts part w i.what) q.items;
}

abbrev pub window_rows : List Column → Query → Grouped → List WinRow
window_rows columns q g = map (window_row columns q g.part) (windows_of columns q.window g.rows)

-- groups in their order, of each its windows; then ORDER BY, OFFSET and LIMIT
abbrev pub answer_of_groups : List Column → Query → List Grouped → List (List Cell)
answer_of_groups columns q groups = answer_of_rows q (flat_map (window_rows columns q) groups)

-- ---- the answer

-- a query with an aggregate, a window or PARTITION BY answers a row for each window of each group
abbrev pub groups_answer : Query → State → List (List Cell)
groups_answer q s = answer_of_groups (source_schema q.source s.catalog).columns q (groups q s)

abbrev pub answer : Query → State → List (List Cell)
answer q s = if is_row_query q then row_answer q s else groups_answer q s
