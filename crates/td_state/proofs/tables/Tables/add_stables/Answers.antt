use Rattle.td_state.proofs.Made.{stable_in_time, stable_more, stable_takes}
use Rattle.td_state.proofs.tables.Tables.add_stables.Goals as goal

pub add_stable-requires-clause-takes : goal.add_stable-requires-clause-takes
add_stable-requires-clause-takes c = stable_takes c.args.stables.now c.loop-stable.stable-index c.stable-item.result c.loop-stable.self.state c.requires.fits c.loop-stable-test.true c.stable-item.is c.loop-stable.invariant

pub add_stable-requires-clause-latest : goal.add_stable-requires-clause-latest
add_stable-requires-clause-latest c = stable_in_time c.args.stables.now c.loop-stable.stable-index c.stable-item.result c.requires.fits c.loop-stable-test.true c.stable-item.is

pub loop-stable-preserved : goal.loop-stable-preserved
loop-stable-preserved c = stable_more c.args.stables.now c.loop-stable.stable-index c.stable-item.result c.loop-stable.self.state c.add_stable.new.self.state c.loop-stable-test.true c.stable-item.is c.loop-stable.invariant c.in_ok-add_stable.ensures
