use Rattle.std.proofs.Common.{◌++◌, codes}
use Rattle.std.specs.Fmt.{decimal}
use Rattle.td_top.specs.Exit.{file_text}
use Rattle.td_top.proofs.Streams.{both_pieces}
use Rattle.td_top.proofs.process.write_place.Goals as goal

pub returns : goal.returns
returns g c = both_pieces _ _ _ _ _ _ _ _ _ (file_text c.args.file) (codes " at " ++ decimal c.args.at) c.write_file.ensures c.in_ok-write_file.was c.write_numbered.ensures
