use Rattle.td_lex.proofs.Numerals.{numeral_is_utf8}
use Rattle.td_lex.proofs.scan.count.Goals as goal

pub returns-in_default : goal.returns-in_default
returns-in_default c = absurd (c.in_default.ensures.cases.0 (numeral_is_utf8 c.args.digits.now c.requires))
