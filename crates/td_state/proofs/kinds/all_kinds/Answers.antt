use Rattle.td_state.proofs.TableKinds.{kinds_done, kinds_more}
use Rattle.td_state.proofs.kinds.all_kinds.Goals as goal

pub loop-place-preserved : goal.loop-place-preserved
loop-place-preserved c = kinds_more c.args.catalog.now.catalog c.loop-place.place c.tables-place-end.result c.in_ok-own.own c.loop-place.kinds c.add.new.self c.loop-place-test.true c.tables-place-end.ensures c.in_ok-own.ensures c.loop-place.invariant c.in_ok-add.ensures.ok

pub returns : goal.returns
returns c = kinds_done c.args.catalog.now.catalog c.loop-place.place c.tables-place-end.result c.loop-place.kinds c.loop-place-test.false c.tables-place-end.ensures c.loop-place.invariant
