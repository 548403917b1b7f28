use Rattle.td_making.proofs.CommitHeads.{heads_more}
use Rattle.td_making.proofs.heading.head_sets.Goals as goal

pub loop-set-preserved : goal.loop-set-preserved
loop-set-preserved c = heads_more c.args.sets.now c.loop-set.set-index c.set-item.result c.loop-set.all c.add.new.self c.in_ok-stt.stt c.loop-set-test.true c.set-item.is c.loop-set.invariant c.in_ok-stt.ensures c.in_ok-add.ensures.ok
