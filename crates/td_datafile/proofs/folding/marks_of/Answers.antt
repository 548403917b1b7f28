use Rattle.td_datafile.proofs.Folds.{is_one}
use Rattle.td_datafile.proofs.folding.marks_of.Goals as goal

pub read_part-requires-clause-few : goal.read_part-requires-clause-few
read_part-requires-clause-few g c = (is_one c.args.entries.now c.in-Some.found.spot.next c.entry_at-entry.result.now c.requires.known c.entry_at-entry.ensures).few
