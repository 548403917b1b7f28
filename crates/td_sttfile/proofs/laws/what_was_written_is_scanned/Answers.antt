use Rattle.td_sttfile.proofs.Tables.{scanned_back, cuts_back}
use Rattle.td_sttfile.proofs.laws.what_was_written_is_scanned.Goals as goal

pub returns : goal.returns
returns c = record {
  partials = λ want range tables r can wanted. scanned_back want range tables r can wanted;
  cuts = λ range tables r can. cuts_back range tables r can;
}
