use Rattle.std.proofs.Common.{◌∙◌}
use Rattle.td_rows.proofs.Puts.{after_more}
use Rattle.td_rows.proofs.tree.RowTree.with_puts.Goals as goal

pub loop-put-preserved : goal.loop-put-preserved
loop-put-preserved c =
    after_more c.args.moment c.args.puts.now c.loop-put.put-index c.put-item.result c.loop-put.rows _ c.loop-put-test.true c.put-item.is c.in_ok-put.ensures ∙ c.loop-put.invariant
