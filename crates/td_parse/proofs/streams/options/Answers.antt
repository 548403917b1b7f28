use Rattle.std.proofs.Common.{ap, sym, ◌∙◌}
use Rattle.std.proofs.lemmas.Result.{err_from_is_err_and}
use Rattle.td_grammar.specs.Grammar.{read}
use Rattle.td_grammar.specs.Words.{states_from}
use Rattle.td_parse.specs.Productions.{stream_option, options, is_new, with_option}
use Rattle.td_grammar.proofs.Forms.{fails_on}
use Rattle.td_parse.proofs.ItemLists.{options_laws, options_begins}
use Rattle.td_parse.proofs.streams.options.Goals as goal

pub loop-all-init : goal.loop-all-init
loop-all-init c = options_begins c.args.tokens.now

pub returns-then-not-may_come : goal.returns-then-not-may_come
returns-then-not-may_come c =
    sym c.loop-all.invariant
    ∙ options_laws.refuses c.loop-all.all c.loop-all.rest.now (sym c.starts_option.ensures ∙ c.loop-all-test.true) (sym c.may_come.ensures ∙ c.if-not-may_come.true)

pub returns-in_err-item : goal.returns-in_err-item
returns-in_err-item c =
    let p = err_from_is_err_and c.from_residual.result c.from_residual.ensures.1 in
    rw (p.1, p.2) (fails_on c.in_err-item.field-0.0 (read (tt {0}) stream_option c.loop-all.rest.now) (read (tt {0}) options c.args.tokens.now)
    (λ n h. sym c.loop-all.invariant ∙ options_laws.fails c.loop-all.all c.loop-all.rest.now n (sym c.starts_option.ensures ∙ c.loop-all-test.true) (sym c.may_come.ensures ∙ c.if-not-may_come.false) h) c.in_err-item.ensures)

pub loop-all-smaller : goal.loop-all-smaller
loop-all-smaller c = options_laws.eats c.loop-all.rest.now c.in_ok-item.item c.in_ok-item.after.now c.in_ok-item.ensures

pub loop-all-preserved : goal.loop-all-preserved
loop-all-preserved c =
    ap (λ s. states_from stream_option is_new with_option s c.in_ok-item.after.now) c.with_option-all.ensures
    ∙ sym (options_laws.takes c.loop-all.all c.loop-all.rest.now c.in_ok-item.item c.in_ok-item.after.now (sym c.starts_option.ensures ∙ c.loop-all-test.true) (sym c.may_come.ensures ∙ c.if-not-may_come.false) c.in_ok-item.ensures)
    ∙ c.loop-all.invariant

pub returns : goal.returns
returns c = sym c.loop-all.invariant ∙ options_laws.stops c.loop-all.all c.loop-all.rest.now (sym c.starts_option.ensures ∙ c.loop-all-test.false)
