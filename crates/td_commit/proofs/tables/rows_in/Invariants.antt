use Rattle.std.proofs.Common.{length}
use Rattle.td_commit.proofs.Rows.{IsRead}
use Rattle.td_commit.proofs.tables.rows_in.Given as goal

abbrev pub invariant-loop-rows : goal.invariant-loop-rows
invariant-loop-rows g l = IsRead l.range l.table l.memtable.puts l.scan.left l.rows

abbrev pub decreases-loop-rows : goal.decreases-loop-rows
decreases-loop-rows g l = length l.scan.left
