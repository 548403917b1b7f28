use Rattle.std.proofs.Common.{◌≡◌, ◌++◌, length, arith}
use Rattle.td_block.specs.Rows.{columns_of}
use Rattle.td_block.specs.Blocks.{columns}
use Rattle.td_block.proofs.WrittenBlocks.{column_ready, columns_written, columns_done}
use Rattle.td_block.proofs.writing.push_columns.Goals as goal

pub push_column-requires-clause-cells : goal.push_column-requires-clause-cells
push_column-requires-clause-cells c = column_ready c.args.kinds.now c.args.rows.now c.loop-column.column c.in_ok-cells.cells.items c.as_slice.result.now c.as_slice.ensures.value c.in_ok-cells.ensures c.loop-column-test.true c.requires.rows

pub loop-column-preserved : goal.loop-column-preserved
loop-column-preserved c =
    columns_written c.args.kinds.now c.args.rows.now c.loop-column.column c.in_ok-cells.cells.items c.as_slice.result.now c.loop-column.out.items c.push_column.new.out.items
    (c.args.out.now.items ++ (columns (length c.args.rows.now) c.args.kinds.now).spelled (columns_of (length c.args.kinds.now) c.args.rows.now)) c.as_slice.ensures.value c.in_ok-cells.ensures c.loop-column-test.true c.in_ok-push_column.ensures c.loop-column.invariant

pub returns : goal.returns
returns c =
    let end : length c.args.kinds.now ≡ c.loop-column.column = omega (arith, c.loop-column-test.false, c.loop-column.auto.column-end) in
    columns_done c.args.kinds.now c.args.rows.now c.loop-column.column c.loop-column.out.items (c.args.out.now.items ++ (columns (length c.args.rows.now) c.args.kinds.now).spelled (columns_of (length c.args.kinds.now) c.args.rows.now)) end c.loop-column.invariant
