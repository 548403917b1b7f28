use Rattle.std.proofs.Common.{◌≡◌, ◌∙◌, ap, subst}
use Rattle.std.specs.Prelude.{IfOk}
use Rattle.td_verdict.specs.Plans.{plan_of}
use Rattle.td_verdict.specs.Queries.{query_verdict}
use Rattle.td_state.proofs.Planned.{answer_rises}
use Rattle.td_state.proofs.tables.Tables.plan.Goals as goal

pub returns-clause-verdict : goal.returns-clause-verdict
returns-clause-verdict c =
    c.in_ok-answer.ensures.verdict ∙ ap (λ h. query_verdict c.args.query.now h.state.catalog) c.self.view_is

pub returns-clause-plan : goal.returns-clause-plan
returns-clause-plan c =
    subst (λ kept. IfOk c.in_ok-answer.answer (λ plan. plan ≡ plan_of c.args.query.now kept)) (ap (λ h. h.state.catalog) c.self.view_is) c.in_ok-answer.ensures.plan

pub returns-clause-rising : goal.returns-clause-rising
returns-clause-rising c = answer_rises c.args.query.now c.self.inside.catalog.catalog c.in_ok-answer.answer c.in_ok-answer.ensures.plan
