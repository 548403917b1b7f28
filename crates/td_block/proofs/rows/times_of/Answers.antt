use Rattle.std.proofs.Common.{[]}
use Rattle.std.proofs.lemmas.Result.{err_from_is_err_and}
use Rattle.td_codec.specs.Lists.{items_read}
use Rattle.td_codec.proofs.Loop.{ends_at, is_done}
use Rattle.td_block.specs.Rows.{time_items, times}
use Rattle.td_block.proofs.Loops.{goes_on_with}
use Rattle.td_block.proofs.rows.times_of.Goals as goal

pub returns-in_err-time : goal.returns-in_err-time
unfolding times
returns-in_err-time c =
    let p = err_from_is_err_and c.from_residual-in_err-time.result c.from_residual-in_err-time.ensures.1 in
    rw (p.1, p.2) (ends_at time_items c.in_err-time.field-0.0 c.loop.times c.as_slice.result.now c.args.rows c.loop.counter c.loop.rest.now (items_read time_items [] c.args.rows c.args.bytes.now) c.as_slice.ensures c.loop-test.true c.in_err-time.ensures c.loop.invariant)

pub loop-preserved : goal.loop-preserved
loop-preserved c =
    goes_on_with time_items c.loop.times c.as_slice.result.now c.add.new.self c.args.rows c.loop.counter c.loop.rest.now c.in_ok-time.time c.in_ok-time.after.now (items_read time_items [] c.args.rows c.args.bytes.now)
    c.as_slice.ensures c.in_ok-add.ensures.ok c.loop-test.true c.in_ok-time.ensures c.loop.invariant

pub returns : goal.returns
unfolding times
returns c = is_done time_items c.loop.times c.args.rows c.loop.counter c.loop.rest.now (items_read time_items [] c.args.rows c.args.bytes.now) c.loop-test.false c.loop.invariant
