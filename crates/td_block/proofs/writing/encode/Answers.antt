use Rattle.std.proofs.Common.{◌∙◌}
use Rattle.td_block.proofs.WrittenBlocks.{block_written}
use Rattle.td_block.proofs.writing.encode.Goals as goal

pub returns : goal.returns
returns c =
    c.from_vec.ensures ∙ block_written c.args.kinds.now c.args.table c.args.rows.now c.in_ok-out.out.items c.push_head.new.out.items c.push_times.new.out.items c.push_births.new.out.items c.push_columns.new.out.items c.requires.rows_are c.in_ok-out.ensures.items
    c.in_ok-push_head.ensures c.in_ok-push_times.ensures c.in_ok-push_births.ensures c.in_ok-push_columns.ensures
