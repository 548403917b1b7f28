use Rattle.std.proofs.Common.{get_or, refl}
use Rattle.td_state.proofs.TableKinds.{put_more}
use Rattle.td_state.proofs.kinds.kinds_by_table.Goals as goal

pub loop-table-preserved : goal.loop-table-preserved
loop-table-preserved c =
    put_more c.args.catalog.now.catalog c.args.tables.now c.loop-table.table-index (get_or c.args.tables.now c.loop-table.table-index 0) c.in_ok-own.own c.loop-table.kinds.entries c.insert.new.self.entries
    c.requires c.loop-table-test.true refl c.in_ok-own.ensures c.loop-table.invariant c.in_ok-insert.ensures.entries
