use Rattle.td_file_cases.proofs.Kept.{after_cut}
use Rattle.td_file_cases.proofs.parts.cut.Goals as goal

pub returns : goal.returns
returns c = after_cut c.args.memtable.now c.cut.new.self c.args.key.table c.args.key.ts c.args.hi c.requires.parts c.requires.key c.in_ok-cut.ensures.ok
