use Rattle.td_datafile.proofs.Tables.{opened, scanned_back}
use Rattle.td_datafile.proofs.laws.what_was_written_is_scanned.Goals as goal

pub returns : goal.returns
returns c = record {
  partials = λ want range tables r can wanted. scanned_back want range tables r can wanted;
  index = λ want range tables r can wanted. opened want range tables r can wanted;
}
