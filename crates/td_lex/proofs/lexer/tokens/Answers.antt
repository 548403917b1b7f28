use Rattle.std.proofs.Common.{[], refl, rules, arith}
use Rattle.std.proofs.lemmas.Grind.{common_steps}
use Rattle.td_lex.specs.Tokens.{IsTokens}
use Rattle.td_lex.proofs.Places.{are_spans}
use Rattle.td_lex.proofs.lexer.tokens.Goals as goal

pub returns-in-None-clause-spans : goal.returns-in-None-clause-spans
returns-in-None-clause-spans c =
    let read : IsTokens c.args.text.now c.from_vec.result = first_of (search rules, grind (arith, common_steps)) in
    are_spans c.from_vec.result 0 [] c.args.text.now [] refl read
