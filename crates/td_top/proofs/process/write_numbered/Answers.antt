use Rattle.std.specs.Fmt.{decimal}
use Rattle.td_top.proofs.Streams.{both_pieces}
use Rattle.td_top.proofs.process.write_numbered.Goals as goal

pub returns : goal.returns
returns g c = both_pieces _ _ _ _ _ _ _ _ _ c.args.words.now (decimal c.args.number) c.write_all.ensures c.in_ok-write_all.was c.write_number.ensures
