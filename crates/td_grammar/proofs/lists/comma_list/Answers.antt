use Rattle.std.proofs.Common.{[], ◌∷◌, ◌++◌, ap, sym, ◌∙◌, Ok}
use Rattle.std.proofs.lemmas.Result.{err_from_is_err_and}
use Rattle.td_grammar.specs.Grammar.{read}
use Rattle.td_grammar.specs.Words.{list_from, comma, ◌▷◌, comma_list}
use Rattle.td_grammar.proofs.Forms.{comma_laws, comma_begins, comma_fails, fails_on}
use Rattle.td_grammar.proofs.lists.comma_list.Goals as goal

pub loop-rest-init : goal.loop-rest-init
loop-rest-init g c =
    ap (λ all. list_from (comma ▷ g.L.Listed.production) all c.in_ok-head.after.now) (c.in_ok-push.ensures.items ∙ ap (λ xs. xs ++ c.in_ok-head.head ∷ []) c.new-all.ensures.items)
    ∙ comma_begins g.L.Listed.production c.args.tokens.now c.in_ok-head.head c.in_ok-head.after.now c.in_ok-head.ensures

pub loop-rest-smaller : goal.loop-rest-smaller
loop-rest-smaller g c = (comma_laws g.L.Listed.production g.met.L.Listed.looks_one_ahead).eats c.loop-rest.rest.now c.in_ok-item.item c.in_ok-item.after.now c.in_ok-item.ensures

pub loop-rest-preserved : goal.loop-rest-preserved
loop-rest-preserved g c =
    let laws = comma_laws g.L.Listed.production g.met.L.Listed.looks_one_ahead in
    ap (λ all. list_from (comma ▷ g.L.Listed.production) all c.in_ok-item.after.now) c.in_ok-push-2.ensures.items
    ∙ sym (laws.takes c.loop-rest.all.items c.loop-rest.rest.now c.in_ok-item.item c.in_ok-item.after.now (sym c.starts.ensures ∙ c.loop-rest-test.true) c.in_ok-item.ensures)
    ∙ c.loop-rest.invariant

pub returns : goal.returns
returns g c =
    let laws = comma_laws g.L.Listed.production g.met.L.Listed.looks_one_ahead in
    sym c.loop-rest.invariant
    ∙ laws.stops c.loop-rest.all.items c.loop-rest.rest.now (sym c.starts.ensures ∙ c.loop-rest-test.false)
    ∙ ap (λ all. Ok (all, c.loop-rest.rest.now)) (sym c.from_vec.ensures)

pub returns-in_err-head : goal.returns-in_err-head
returns-in_err-head g c =
    let p = err_from_is_err_and c.from_residual.result c.from_residual.ensures.1 in
    rw (p.1, p.2) (fails_on c.in_err-head.field-0.0 (read (tt {0}) g.L.Listed.production c.args.tokens.now) (read (tt {0}) (comma_list g.L.Listed.production) c.args.tokens.now) (comma_fails g.L.Listed.production c.args.tokens.now) c.in_err-head.ensures)

pub returns-in_err-item : goal.returns-in_err-item
returns-in_err-item g c =
    let laws = comma_laws g.L.Listed.production g.met.L.Listed.looks_one_ahead in
    let p = err_from_is_err_and c.from_residual-in_err-item.result c.from_residual-in_err-item.ensures.1 in
    rw (p.1, p.2) (fails_on c.in_err-item.field-0.0 (read (tt {0}) (comma ▷ g.L.Listed.production) c.loop-rest.rest.now) (read (tt {0}) (comma_list g.L.Listed.production) c.args.tokens.now)
    (λ n h. sym c.loop-rest.invariant ∙ laws.fails c.loop-rest.all.items c.loop-rest.rest.now n (sym c.starts.ensures ∙ c.loop-rest-test.true) h) c.in_err-item.ensures)
