use Rattle.td_commit.proofs.Rows.{none_next}
use Rattle.td_commit.proofs.tables.rows_in.Goals as goal

pub returns-clause-rising : goal.returns-clause-rising
returns-clause-rising g c =
    none_next c.args.range c.args.table c.args.memtable.now.puts c.loop-rows.scan.left c.next_put.new.scan.left c.loop-rows.rows c.in_ok-key.field-0 c.in_ok-key.ensures.put c.in_default.is c.next_put.ensures.order c.loop-rows.invariant
