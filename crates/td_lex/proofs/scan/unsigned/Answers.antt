use Rattle.std.proofs.Common.{rules}
use Rattle.td_lex.proofs.Numerals.{front_numeral, front_number}
use Rattle.td_lex.proofs.scan.unsigned.Goals as goal

pub whole-requires : goal.whole-requires
whole-requires c = search (rules, front_number c.args.text.now c.requires)

pub duration-requires : goal.duration-requires
duration-requires c = search (rules, front_numeral c.args.text.now c.requires)
