use Rattle.td_printed.proofs.Replies.{reply_prints}
use Rattle.td_printed.proofs.laws.replies_are_printable.Goals as goal

pub returns : goal.returns
returns c = reply_prints
