use Rattle.std.proofs.Common.{[], refl}
use Rattle.std.specs.Int.{w64}
use Rattle.std.proofs.lemmas.Result.{err_from_is_err_and}
use Rattle.td_codec.specs.Fields.{number}
use Rattle.td_codec.specs.Lists.{each, items_read}
use Rattle.td_codec.proofs.Loop.{ends_at, is_done}
use Rattle.td_block.specs.Rows.{births}
use Rattle.td_block.proofs.Loops.{goes_on_with}
use Rattle.td_block.proofs.rows.births_of.Goals as goal

pub returns-in_err-birth : goal.returns-in_err-birth
unfolding births
returns-in_err-birth c =
    let p = err_from_is_err_and c.from_residual-in_err-birth.result c.from_residual-in_err-birth.ensures.1 in
    rw (p.1, p.2) (ends_at (each (number w64)) c.in_err-birth.field-0.0 c.loop.births c.loop.births c.args.rows c.loop.counter c.loop.rest.now (items_read (each (number w64)) [] c.args.rows c.args.bytes.now) refl c.loop-test.true c.in_err-birth.ensures c.loop.invariant)

pub loop-preserved : goal.loop-preserved
loop-preserved c =
    goes_on_with (each (number w64)) c.loop.births c.loop.births c.add.new.self c.args.rows c.loop.counter c.loop.rest.now c.in_ok-birth.birth c.in_ok-birth.after.now (items_read (each (number w64)) [] c.args.rows c.args.bytes.now)
    refl c.in_ok-add.ensures.ok c.loop-test.true c.in_ok-birth.ensures c.loop.invariant

pub returns : goal.returns
unfolding births
returns c = is_done (each (number w64)) c.loop.births c.args.rows c.loop.counter c.loop.rest.now (items_read (each (number w64)) [] c.args.rows c.args.bytes.now) c.loop-test.false c.loop.invariant
