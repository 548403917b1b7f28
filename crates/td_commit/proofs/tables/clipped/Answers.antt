use Rattle.td_commit.proofs.Rows.{one_clipped}
use Rattle.td_commit.proofs.tables.clipped.Goals as goal

pub loop-cut-preserved : goal.loop-cut-preserved
loop-cut-preserved c =
    one_clipped c.args.range c.args.cuts.now c.loop-cut.left.now c.in-Some.rest.now c.loop-cut.some c.add_some.new.list c.in-Some.cut.now c.clip.result c.in-Some.ensures.cases.0 c.clip.ensures c.in_ok-add_some.ensures c.loop-cut.invariant
