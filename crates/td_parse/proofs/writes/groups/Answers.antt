use Rattle.std.proofs.Common.{[], ◌∷◌, ◌++◌, ap, sym, ◌∙◌, Ok}
use Rattle.std.proofs.lemmas.Result.{err_from_is_err_and}
use Rattle.td_grammar.specs.Grammar.{read}
use Rattle.td_grammar.specs.Words.{list_from}
use Rattle.td_parse.specs.Productions.{group, further_group, groups}
use Rattle.td_grammar.proofs.Forms.{fails_on}
use Rattle.td_parse.proofs.ItemLists.{groups_laws, groups_begins, groups_fail}
use Rattle.td_parse.proofs.writes.groups.Goals as goal

pub loop-rest-init : goal.loop-rest-init
loop-rest-init c =
    ap (λ all. list_from further_group all c.in_ok-head.after.now) (c.in_ok-push.ensures.items ∙ ap (λ xs. xs ++ c.in_ok-head.head ∷ []) c.new-all.ensures.items)
    ∙ groups_begins c.args.tokens.now c.in_ok-head.head c.in_ok-head.after.now c.in_ok-head.ensures

pub loop-rest-smaller : goal.loop-rest-smaller
loop-rest-smaller c = groups_laws.eats c.loop-rest.rest.now c.in_ok-item.item c.in_ok-item.after.now c.in_ok-item.ensures

pub loop-rest-preserved : goal.loop-rest-preserved
loop-rest-preserved c =
    ap (λ all. list_from further_group all c.in_ok-item.after.now) c.in_ok-push-2.ensures.items
    ∙ sym (groups_laws.takes c.loop-rest.all.items c.loop-rest.rest.now c.in_ok-item.item c.in_ok-item.after.now (sym c.starts_either.ensures ∙ c.loop-rest-test.true) c.in_ok-item.ensures)
    ∙ c.loop-rest.invariant

pub returns : goal.returns
returns c =
    sym c.loop-rest.invariant
    ∙ groups_laws.stops c.loop-rest.all.items c.loop-rest.rest.now (sym c.starts_either.ensures ∙ c.loop-rest-test.false)
    ∙ ap (λ all. Ok (all, c.loop-rest.rest.now)) (sym c.from_vec.ensures)

pub returns-in_err-head : goal.returns-in_err-head
returns-in_err-head c =
    let p = err_from_is_err_and c.from_residual.result c.from_residual.ensures.1 in
    rw (p.1, p.2) (fails_on c.in_err-head.field-0.0 (read (tt {0}) group c.args.tokens.now) (read (tt {0}) groups c.args.tokens.now) (groups_fail c.args.tokens.now) c.in_err-head.ensures)

pub returns-in_err-item : goal.returns-in_err-item
returns-in_err-item c =
    let p = err_from_is_err_and c.from_residual-in_err-item.result c.from_residual-in_err-item.ensures.1 in
    rw (p.1, p.2) (fails_on c.in_err-item.field-0.0 (read (tt {0}) further_group c.loop-rest.rest.now) (read (tt {0}) groups c.args.tokens.now)
    (λ n h. sym c.loop-rest.invariant ∙ groups_laws.fails c.loop-rest.all.items c.loop-rest.rest.now n (sym c.starts_either.ensures ∙ c.loop-rest-test.true) h) c.in_err-item.ensures)
