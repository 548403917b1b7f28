use Rattle.std.proofs.Common.{map}
use Rattle.std.specs.Prelude.{sum}
use Rattle.td_outside.specs.Causes.{raised}
use Rattle.td_making.proofs.Stores.{over_more, same_given}
use Rattle.td_making.proofs.making.abandon_all.Goals as goal

pub loop-file-preserved : goal.loop-file-preserved
loop-file-preserved g c = record {
  image = same_given (g.S.Writer.Writer.name c.in-Some.file) (g.S.Store.told c.args.store.now) (g.S.Store.told c.loop-file.store) (g.S.Store.told c.abandon.new.self) c.loop-file.invariant.image c.abandon.ensures.ok;
  count = over_more g.S.Writer.Writer.count c.loop-file.files c.pop.new.self c.in-Some.file (raised (g.S.Store.count c.args.store.now) (sum (map g.S.Writer.Writer.count c.args.files))) (g.S.Store.count c.loop-file.store) (g.S.Store.count c.abandon.new.self) c.in-Some.ensures c.loop-file.invariant.count c.abandon.ensures.over;
}
