use Rattle.td_printed.proofs.ShortNames.{answer_short}
use Rattle.td_printed.proofs.laws.texts_fit_heads.Goals as goal

pub returns : goal.returns
returns c = answer_short
