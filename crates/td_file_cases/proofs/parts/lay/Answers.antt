use Rattle.td_file_cases.proofs.Kept.{column_cells, one_width, after_put}
use Rattle.td_file_cases.proofs.parts.lay.Goals as goal

pub put-requires-clause-values : goal.put-requires-clause-values
put-requires-clause-values c = column_cells (c.args.put.now.key, record { birth = c.args.birth; cells = c.args.put.now.cells }) c.requires.put

pub put-requires-clause-width : goal.put-requires-clause-width
put-requires-clause-width c = one_width c.args.memtable.now c.args.put.now.key (record { birth = c.args.birth; cells = c.args.put.now.cells }) c.requires.parts c.requires.put

pub returns : goal.returns
returns c = after_put c.args.memtable.now c.put.new.self c.args.put.now.key (record { birth = c.args.birth; cells = c.args.put.now.cells }) c.requires.parts c.requires.put c.in_ok-put.ensures.ok
