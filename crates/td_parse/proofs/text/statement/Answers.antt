use Rattle.std.proofs.Common.{◌≡◌, Some, None, inl, inr, arith}
use Rattle.std.proofs.lemmas.Grind.{common_steps}
use Rattle.td_lex.specs.declared.kinds.LexFault.TheVariants.{BadToken, TooWide}
use Rattle.td_lex.specs.Laws.{Lexes}
use Rattle.td_parse.specs.Statements.{lexemes, places}
use Rattle.td_parse.proofs.Answered.{answer_of_all, answer_of_front}
use Rattle.td_parse.proofs.text.statement.Goals as goal

pub returns-in-None : goal.returns-in-None
returns-in-None c =
    let read : Lexes c.args.text.now c.in_ok-tokens.tokens.items None = grind (arith, common_steps) in
    let kinds : c.as_slice.result.now ≡ lexemes c.in_ok-tokens.tokens.items = grind (arith, common_steps) in
    let ats : c.as_slice-in-None.result.now ≡ places c.in_ok-tokens.tokens.items = grind (arith, common_steps) in
    answer_of_all c.args.text.now c.in_ok-tokens.tokens.items c.as_slice.result.now c.as_slice-in-None.result.now c.in_ok-answer-in-None.answer c.if-text-gt-STATEMENT_BYTES.false read kinds ats c.in_ok-answer-in-None.ensures

pub returns-in-Some-BadToken : goal.returns-in-Some-BadToken
returns-in-Some-BadToken c =
    let read : Lexes c.args.text.now c.in_ok-tokens.tokens.items (Some (BadToken c.in-Some-BadToken.at)) = grind (arith, common_steps) in
    let kinds : c.as_slice-in-Some-BadToken.result.now ≡ lexemes c.in_ok-tokens.tokens.items = grind (arith, common_steps) in
    let ats : c.as_slice-in-Some-BadToken-2.result.now ≡ places c.in_ok-tokens.tokens.items = grind (arith, common_steps) in
    answer_of_front c.args.text.now c.in_ok-tokens.tokens.items c.in-Some-BadToken.at c.as_slice-in-Some-BadToken.result.now c.as_slice-in-Some-BadToken-2.result.now c.in_ok-answer-in-Some-BadToken.answer c.if-text-gt-STATEMENT_BYTES.false (inl read) kinds ats c.in_ok-answer-in-Some-BadToken.ensures

pub returns-in-Some-TooWide : goal.returns-in-Some-TooWide
returns-in-Some-TooWide c =
    let read : Lexes c.args.text.now c.in_ok-tokens.tokens.items (Some (TooWide c.in-Some-TooWide.at)) = grind (arith, common_steps) in
    let kinds : c.as_slice-in-Some-TooWide.result.now ≡ lexemes c.in_ok-tokens.tokens.items = grind (arith, common_steps) in
    let ats : c.as_slice-in-Some-TooWide-2.result.now ≡ places c.in_ok-tokens.tokens.items = grind (arith, common_steps) in
    answer_of_front c.args.text.now c.in_ok-tokens.tokens.items c.in-Some-TooWide.at c.as_slice-in-Some-TooWide.result.now c.as_slice-in-Some-TooWide-2.result.now c.in_ok-answer-in-Some-TooWide.answer c.if-text-gt-STATEMENT_BYTES.false (inr read) kinds ats c.in_ok-answer-in-Some-TooWide.ensures
