use Rattle.td_memtable_cases.proofs.Narrowed.{one_after_cut}
use Rattle.td_memtable_cases.proofs.player.cut.Goals as goal

pub returns : goal.returns
returns c = one_after_cut c.args.memtable.now c.cut.new.self c.args.numbers.table c.args.numbers.second c.args.numbers.third c.requires c.in_ok-cut.ensures.ok
