use Rattle.td_datafile.proofs.Folded.{folded_back}
use Rattle.td_datafile.proofs.laws.what_was_written_is_folded.Goals as goal

pub returns : goal.returns
returns c = λ want column range tables r lt can wanted. folded_back want column range tables r lt can wanted
