use Rattle.std.proofs.Common.{◌≡◌, drop}
use Rattle.td_rows.specs.Puts.{rows_after}
use Rattle.td_rows.proofs.tree.RowTree.with_puts.Given as goal

-- what the puts that are left make of the rows is what all make of the first rows
abbrev pub invariant-loop-put : goal.invariant-loop-put
invariant-loop-put l = rows_after l.moment (drop l.put-index l.puts) l.rows ≡ rows_after l.moment l.puts l.self
