use Rattle.td_state.specs.Heads.{table_head, table_heads}
use Rattle.td_state.proofs.ToHead.{all_there, one_there}
use Rattle.td_state.proofs.to_head.table_heads.Goals as goal

pub loop-place-preserved : goal.loop-place-preserved
loop-place-preserved c =
    one_there (table_heads c.args.catalog.now.catalog.tables c.args.contents.now.kept.greatest.tables) c.loop-place.place c.in_ok-table.table c.loop-place.tables c.add.new.self
    c.in_ok-table.ensures c.loop-place.invariant c.in_ok-add.ensures.ok

pub returns : goal.returns
returns c =
    all_there table_head c.args.catalog.now.catalog.tables c.args.contents.now.kept.greatest.tables c.tables-place-end.result c.loop-place.place c.loop-place.tables
    c.requires c.tables-place-end.ensures c.loop-place-test.false c.loop-place.invariant
