use Rattle.std.proofs.Common.{List, sym, subst}
use Rattle.td_manifest.specs.declared.head.HeadTable.{HeadTable}
use Rattle.td_state.specs.Heads.{FitTables}
use Rattle.td_state.proofs.Made.{table_in_time, table_more, table_takes}
use Rattle.td_state.proofs.tables.Tables.add_tables.Goals as goal

pub add_table-requires-clause-takes : goal.add_table-requires-clause-takes
add_table-requires-clause-takes c =
    let fits = subst (λ (ts : List HeadTable). FitTables c.args.head.now.stables ts) (sym c.as_slice-tables.ensures) c.requires.fits in
    table_takes c.args.head.now.stables c.as_slice-tables.result.now c.loop-table.table-index c.table-item.result c.loop-table.self.state fits c.loop-table-test.true c.table-item.is c.loop-table.invariant

pub add_table-requires-clause-latest : goal.add_table-requires-clause-latest
add_table-requires-clause-latest c =
    let fits = subst (λ (ts : List HeadTable). FitTables c.args.head.now.stables ts) (sym c.as_slice-tables.ensures) c.requires.fits in
    table_in_time c.args.head.now.stables c.as_slice-tables.result.now c.loop-table.table-index c.table-item.result fits c.loop-table-test.true c.table-item.is

pub loop-table-preserved : goal.loop-table-preserved
loop-table-preserved c =
    table_more c.args.head.now.stables c.as_slice-tables.result.now c.loop-table.table-index c.table-item.result c.loop-table.self.state c.add_table.new.self.state c.loop-table-test.true c.table-item.is c.loop-table.invariant c.in_ok-add_table.ensures
