use Rattle.td_block.proofs.Written.{rows_go_on}
use Rattle.td_block.proofs.rows.rows_from.Goals as goal

pub loop-row-preserved : goal.loop-row-preserved
loop-row-preserved c = rows_go_on c.args.times.now c.args.births.now c.args.columns.now c.loop-row.rows c.add.new.self c.loop-row.row c.birth_at-born.result c.in_ok-cells.cells c.in_ok-add.ensures.ok c.birth_at-born.ensures c.in_ok-cells.ensures c.loop-row.invariant
