use Rattle.std.proofs.Common.{◌≡◌, ap, sym, subst, ◌∙◌}
use Rattle.std.specs.Prelude.{IfOk}
use Rattle.td_verdict.specs.Plans.{plan_of}
use Rattle.td_bind.specs.Answers.{query_verdict_of}
use Rattle.td_verdict.specs.Queries.{query_verdict}
use Rattle.td_core.proofs.kept.Core.view.Goals as goal

pub returns-clause-plan : goal.returns-clause-plan
returns-clause-plan g c =
    let own = subst (λ r. IfOk r (λ p. p ≡ plan_of c.args.query.now c.self.inside.tables.state.catalog)) c.in-Ok.is c.in_ok-plan.ensures.plan in
    c.in_ok-view.ensures.plan ∙ own ∙ ap (λ k. plan_of c.args.query.now k.state.catalog) c.self.view_is

pub returns-clause-header : goal.returns-clause-header
returns-clause-header g c =
    let own = subst (λ r. IfOk r (λ p. p ≡ plan_of c.args.query.now c.self.inside.tables.state.catalog)) c.in-Ok.is c.in_ok-plan.ensures.plan in
    rw (← c.self.view_is) (c.in_ok-view.ensures.header c.args.query.now own)

pub returns-in-Err-clause-refused : goal.returns-in-Err-clause-refused
returns-in-Err-clause-refused g c =
    ap (λ k. query_verdict c.args.query.now k.state.catalog) (sym c.self.view_is) ∙ sym c.in_ok-plan.ensures.verdict ∙ ap query_verdict_of c.in-Err.is

pub returns-clause-passes : goal.returns-clause-passes
returns-clause-passes g c =
    ap (λ k. query_verdict c.args.query.now k.state.catalog) (sym c.self.view_is) ∙ sym c.in_ok-plan.ensures.verdict ∙ ap query_verdict_of c.in-Ok.is
