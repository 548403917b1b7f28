use Rattle.td_memtable_cases.proofs.Narrowed.{one_width, one_after_put}
use Rattle.td_memtable_cases.proofs.player.lay.Goals as goal

pub put-requires-clause-width : goal.put-requires-clause-width
put-requires-clause-width c = one_width c.args.memtable.now.puts c.args.put.now.key c.args.put.now.cells c.requires.narrow c.requires.one

pub returns : goal.returns
returns c = one_after_put c.args.memtable.now c.put.new.self c.args.put.now.key (record { birth = c.args.birth; cells = c.args.put.now.cells }) c.requires.narrow c.requires.one c.in_ok-put.ensures.ok
