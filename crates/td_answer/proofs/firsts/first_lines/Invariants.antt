use Rattle.std.proofs.Common.{◌≡◌, ◌≤◌, ◌++◌, length}
use Rattle.td_answer.specs.Firsts.{cells_of_lines, cells_found}
use Rattle.td_answer.specs.Picks.{listed, found_of, table_found}
use Rattle.td_answer.proofs.firsts.first_lines.Given as goal

-- the rows so far and those that are picked of the rows that are left are all, and there are no more than wanted
abbrev pub invariant-loop-key : goal.invariant-loop-key
invariant-loop-key g l =
    (cells_of_lines l.columns l.lines.items ++ cells_found (found_of l.columns l.comparisons (listed l.table) l.key-iterator)
    ≡ cells_found (table_found l.plan l.comparisons (g.M.RowsByKey.rows l.rows) (listed l.table)))
    × (length l.lines.items ≤ l.most)
