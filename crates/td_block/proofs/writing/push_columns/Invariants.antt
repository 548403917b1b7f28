use Rattle.std.proofs.Common.{◌≡◌, ◌++◌, length, drop}
use Rattle.td_block.specs.Rows.{columns_of}
use Rattle.td_block.specs.Blocks.{columns}
use Rattle.td_block.proofs.writing.push_columns.Given as goal

-- what was added, and the columns from here on, are all columns
abbrev pub invariant-loop-column : goal.invariant-loop-column
invariant-loop-column l = l.out.items ++ (columns (length l.rows) (drop l.column l.kinds)).spelled (drop l.column (columns_of (length l.kinds) l.rows)) ≡ l.fn.out.items ++ (columns (length l.rows) l.kinds).spelled (columns_of (length l.kinds) l.rows)
