use Rattle.td_block.proofs.Written.{column_written}
use Rattle.td_block.proofs.columns.push_column.Goals as goal

pub returns : goal.returns
returns c = column_written c.args.kind c.args.cells.now c.args.out.now.items c.push.new.self.items c.push_bitmap.new.out.items c.push_bitmap-2.new.out.items c.push_lanes.new.out.items c.code.result c.requires.fixed c.code.ensures c.in_ok-push.ensures.items c.in_ok-push_bitmap.ensures c.in_ok-push_bitmap-2.ensures c.in_ok-push_lanes.ensures
