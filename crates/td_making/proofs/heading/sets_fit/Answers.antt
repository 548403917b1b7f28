use Rattle.td_making.proofs.CommitHeads.{sets_more}
use Rattle.td_making.proofs.heading.sets_fit.Goals as goal

pub loop-i-preserved : goal.loop-i-preserved
loop-i-preserved c =
    sets_more c.args.sets.now c.loop-i.i c.index-sets-i.result c.loop-i.files.keys c.add_set.new.files.keys c.loop-i-test.true c.index-sets-i.is c.loop-i.invariant
    (c.in_ok-add_set.ensures.fits c.if-not-branch.false) (c.in_ok-add_set.ensures.added c.if-not-branch.false)
