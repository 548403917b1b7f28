use Rattle.std.proofs.Common.{[]}
use Rattle.std.proofs.lemmas.Result.{err_from_is_err_and}
use Rattle.td_codec.specs.Lists.{items_read}
use Rattle.td_codec.proofs.Loop.{starts_at, goes_on_at, ends_at, is_done}
use Rattle.td_codec.proofs.lists.items_of.Goals as goal

pub loop-init : goal.loop-init
loop-init g c = starts_at g.R.ItemReader.items (λ l. g.R.ItemReader.knows c.args.reader.now l) c.new-items.result c.args.count c.args.bytes.now c.new-items.ensures c.requires

pub returns-in_err-item : goal.returns-in_err-item
returns-in_err-item g c =
    let p = err_from_is_err_and c.from_residual.result c.from_residual.ensures.1 in
    rw (p.1, p.2) (ends_at g.R.ItemReader.items c.in_err-item.field-0.0 c.loop.items c.as_slice.result.now c.args.count c.loop.counter c.loop.rest.now (items_read g.R.ItemReader.items [] c.args.count c.args.bytes.now) c.as_slice.ensures c.loop-test.true c.in_err-item.ensures.read c.loop.invariant.0)

pub loop-preserved : goal.loop-preserved
loop-preserved g c =
    goes_on_at g.R.ItemReader.items (λ l. g.R.ItemReader.knows c.item_of.new.self l) c.loop.items c.as_slice.result.now c.add.new.self c.args.count c.loop.counter c.loop.rest.now c.in_ok-item.item c.in_ok-item.after.now (items_read g.R.ItemReader.items [] c.args.count c.args.bytes.now)
    c.as_slice.ensures c.in_ok-add.ensures.ok c.loop-test.true c.in_ok-item.ensures.read c.in_ok-item.ensures.knows c.loop.invariant.0

pub returns : goal.returns
returns g c = is_done g.R.ItemReader.items c.loop.items c.args.count c.loop.counter c.loop.rest.now (items_read g.R.ItemReader.items [] c.args.count c.args.bytes.now) c.loop-test.false c.loop.invariant.0
