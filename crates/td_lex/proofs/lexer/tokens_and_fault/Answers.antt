use Rattle.std.proofs.Common.{◌≡◌, ◌++◌, ◌∷◌, [], ◌-◌, length, Option, refl, sym, subst, arith, ◌∙◌}
use Rattle.std.proofs.lemmas.Grind.{common_steps}
use Rattle.std.proofs.lemmas.Bool.Decides.{nat_tests}
use Rattle.td_lex.specs.declared.kinds.Spanned.{Spanned}
use Rattle.td_lex.specs.declared.kinds.LexFault.{LexFault}
use Rattle.td_lex.specs.Tokens.{NoToken, WideFirst}
use Rattle.td_lex.specs.Laws.{StopsAt, Lexes}
use Rattle.td_lex.specs.Lexing.{token_of}
use Rattle.td_lex.proofs.Readings.{begins_apart, not_longer, first, not_empty, shorter, step, all_read, stops, no_token, wide, no_form, too_wide}
use Rattle.td_lex.proofs.lexer.tokens_and_fault.Goals as goal

pub loop-rest-init : goal.loop-rest-init
loop-rest-init c = record {
  apart = begins_apart c.args.text.now c.past_blanks-rest.result.now c.past_blanks-rest.ensures;
  within = not_longer c.args.text.now c.past_blanks-rest.result.now c.past_blanks-rest.ensures;
  so_far = first c.args.text.now c.past_blanks-rest.result.now c.new-found.result.items c.new-found.ensures.items c.past_blanks-rest.ensures;
}

pub overflow_sub-end : goal.overflow_sub-end
overflow_sub-end c = omega (arith, shorter c.loop-rest.rest.now c.in-Ok.token c.in-Ok.after.now c.in-Ok.ensures, c.loop-rest.invariant.within)

pub loop-rest-smaller : goal.loop-rest-smaller
loop-rest-smaller c =
    let less = shorter c.loop-rest.rest.now c.in-Ok.token c.in-Ok.after.now c.in-Ok.ensures in
    let same = not_longer c.in-Ok.after.now c.past_blanks-rest-in-Ok.result.now c.past_blanks-rest-in-Ok.ensures in
    omega arith

pub loop-rest-preserved : goal.loop-rest-preserved
loop-rest-preserved c =
    let less = shorter c.loop-rest.rest.now c.in-Ok.token c.in-Ok.after.now c.in-Ok.ensures in
    let same = not_longer c.in-Ok.after.now c.past_blanks-rest-in-Ok.result.now c.past_blanks-rest-in-Ok.ensures in
    let s : Spanned = record { token = c.in-Ok.token; at = length c.args.text.now - length c.loop-rest.rest.now; end = length c.args.text.now - length c.in-Ok.after.now } in
    let pushed : c.push.new.self.items ≡ c.loop-rest.found.items ++ s ∷ [] = grind (arith, common_steps) in
    record {
      apart = begins_apart c.in-Ok.after.now c.past_blanks-rest-in-Ok.result.now c.past_blanks-rest-in-Ok.ensures;
      within = omega (arith, c.loop-rest.invariant.within);
      so_far = step c.args.text.now c.loop-rest.rest.now c.in-Ok.after.now c.past_blanks-rest-in-Ok.result.now c.loop-rest.found.items c.push.new.self.items s c.in-Ok.ensures c.loop-rest.invariant.within refl refl c.past_blanks-rest-in-Ok.ensures pushed c.loop-rest.invariant.so_far;
    }

pub returns-in-Err-NoForm : goal.returns-in-Err-NoForm
returns-in-Err-NoForm c =
    let some = not_empty c.loop-rest.rest.now (sym c.is_empty.ensures ∙ c.loop-rest-test.true) in
    let is = no_form c.in-Err-NoForm.field-0 (token_of c.loop-rest.rest.now) c.in-Err-NoForm.field-0-is c.in-Err-NoForm.ensures in
    subst (λ (o : Option LexFault). Lexes c.args.text.now c.failed.result.tokens.items o) (sym c.failed.ensures.fault)
    (subst (λ ts. StopsAt NoToken c.args.text.now ts (length c.args.text.now - length c.loop-rest.rest.now)) (sym c.failed.ensures.tokens)
    (stops NoToken c.args.text.now c.loop-rest.rest.now c.loop-rest.found.items (length c.args.text.now - length c.loop-rest.rest.now) refl c.loop-rest.invariant.within c.loop-rest.invariant.so_far (no_token c.loop-rest.rest.now some c.loop-rest.invariant.apart is)))

pub returns-in-Err-Wide : goal.returns-in-Err-Wide
returns-in-Err-Wide c =
    let is = too_wide c.in-Err-Wide.field-0 (token_of c.loop-rest.rest.now) c.in-Err-Wide.field-0-is c.in-Err-Wide.ensures in
    subst (λ (o : Option LexFault). Lexes c.args.text.now c.failed-in-Err-Wide.result.tokens.items o) (sym c.failed-in-Err-Wide.ensures.fault)
    (subst (λ ts. StopsAt WideFirst c.args.text.now ts (length c.args.text.now - length c.loop-rest.rest.now)) (sym c.failed-in-Err-Wide.ensures.tokens)
    (stops WideFirst c.args.text.now c.loop-rest.rest.now c.loop-rest.found.items (length c.args.text.now - length c.loop-rest.rest.now) refl c.loop-rest.invariant.within c.loop-rest.invariant.so_far (wide c.loop-rest.rest.now is)))

pub returns : goal.returns
returns c = all_read c.args.text.now c.loop-rest.rest.now c.loop-rest.found.items (grind (arith, nat_tests)) c.loop-rest.invariant.so_far
