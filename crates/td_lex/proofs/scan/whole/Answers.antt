use Rattle.td_lex.proofs.Numerals.{number_is_utf8}
use Rattle.td_lex.proofs.scan.whole.Goals as goal

pub returns-in_default : goal.returns-in_default
returns-in_default c = absurd (c.in_default.ensures.cases.0 (number_is_utf8 c.args.front.now c.requires))
