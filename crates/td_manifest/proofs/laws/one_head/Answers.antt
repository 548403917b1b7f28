use Rattle.td_manifest.proofs.HeadLaws.{one_head, head_or_break, one_break, one_spelling}
use Rattle.td_manifest.proofs.laws.one_head.Goals as goal

pub returns : goal.returns
returns c = record { head = one_head; apart = head_or_break; fault = one_break; spelling = one_spelling }
