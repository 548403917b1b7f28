use Rattle.std.proofs.Common.{[]}
use Rattle.std.proofs.lemmas.Result.{err_from_is_err_and}
use Rattle.td_codec.specs.Lists.{items_read}
use Rattle.td_codec.proofs.Loop.{is_done}
use Rattle.td_manifest.proofs.Loops.{ends_with, goes_on_with}
use Rattle.td_manifest.proofs.lists.items_of.Goals as goal

pub returns-in_err-item-clause-read : goal.returns-in_err-item-clause-read
returns-in_err-item-clause-read g c =
    let items = g.R.ItemReader.items c.args.reader.now in
    let p = err_from_is_err_and c.from_residual.result c.from_residual.ensures.1 in
    rw (p.1, p.2) (ends_with items (g.R.ItemReader.items c.loop.reader) c.in_err-item.field-0.0 c.loop.items c.as_slice.result.now c.args.count c.loop.counter c.loop.rest.now (items_read items [] c.args.count c.args.bytes.now) c.loop.invariant.1 c.as_slice.ensures c.loop-test.true c.in_err-item.ensures.read c.loop.invariant.0.0)

pub loop-preserved : goal.loop-preserved
loop-preserved g c =
    let items = g.R.ItemReader.items c.args.reader.now in
    goes_on_with items (g.R.ItemReader.items c.loop.reader) (g.R.ItemReader.items c.item_of.new.self) (λ l. g.R.ItemReader.knows c.item_of.new.self l) c.loop.items c.as_slice.result.now c.add.new.self c.args.count c.loop.counter c.loop.rest.now c.in_ok-item.item c.in_ok-item.after.now
    (items_read items [] c.args.count c.args.bytes.now) c.loop.invariant.1 c.in_ok-item.ensures.same c.as_slice.ensures c.in_ok-add.ensures.ok c.loop-test.true c.in_ok-item.ensures.read c.in_ok-item.ensures.knows c.loop.invariant.0.0

pub returns-clause-read : goal.returns-clause-read
returns-clause-read g c =
    let items = g.R.ItemReader.items c.args.reader.now in
    is_done items c.loop.items c.args.count c.loop.counter c.loop.rest.now (items_read items [] c.args.count c.args.bytes.now) c.loop-test.false c.loop.invariant.0.0
