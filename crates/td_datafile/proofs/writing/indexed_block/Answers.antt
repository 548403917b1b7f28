use Rattle.std.proofs.Common.{length, ap, arith}
use Rattle.td_datafile.proofs.IndexLaws.{block_few}
use Rattle.td_datafile.proofs.writing.indexed_block.Goals as goal

pub overflow_cast-len : goal.overflow_cast-len
overflow_cast-len c =
    let few = block_few c.args.kinds.now c.args.table c.args.rows.now c.requires in
    let size = ap length c.in_ok-block.ensures in
    omega (arith, few, size, c.len.ensures)

pub returns-clause-few : goal.returns-clause-few
returns-clause-few c =
    let few = block_few c.args.kinds.now c.args.table c.args.rows.now c.requires in
    let size = ap length c.in_ok-block.ensures in
    omega (arith, few, size)
