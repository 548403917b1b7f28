use Rattle.std.proofs.Common.{◌<◌, ◌^◌, length, drop, take, ap, subst, ◌∙◌}
use Rattle.td_verdict.specs.Fields.{comparisons_of}
use Rattle.td_verdict.specs.Answers.{answer_of, cut, shown_places}
use Rattle.td_verdict.specs.Plans.{reads_one}
use Rattle.td_answer.specs.Lines.{lines_shown}
use Rattle.td_answer.specs.Picks.{plan_found}
use Rattle.td_answer.proofs.Orders.{shown_lines, few_shown}
use Rattle.td_answer.proofs.answers.shown_of.Goals as goal

pub returns-clause-part : goal.returns-clause-part
returns-clause-part g c =
    let plan = c.args.plan.now in
    let q = plan.query in
    let columns = plan.schema.columns in
    let rows = g.M.RowsByKey.rows c.args.rows.now in
    let places = c.as_slice-4.result.now in
    let picked = plan_found plan c.as_slice-2.result.now rows in
    let lines = c.in_ok-ordered.ordered.items in
    c.in_ok-all.ensures
    ∙ ap (λ cs. lines_shown cs places c.part-lines.result.now) c.as_slice-columns.ensures
    ∙ ap (lines_shown columns places) (c.part-lines.ensures ∙ ap (λ ls. take c.args.count (drop c.args.skip (cut q ls))) c.as_slice-3.ensures.value)
    ∙ shown_lines q columns places c.args.skip c.args.count lines picked c.in_ok-ordered.ensures.part
    ∙ ap (λ ps. take c.args.count (drop c.args.skip (answer_of q places (plan_found plan ps rows)))) (c.as_slice-2.ensures ∙ c.in_ok-comparisons.ensures ∙ ap (comparisons_of plan.schema) c.as_slice.ensures)
    ∙ ap (λ ps. take c.args.count (drop c.args.skip (answer_of q ps (plan_found plan (comparisons_of plan.schema q.conds) rows)))) (c.as_slice-4.ensures ∙ c.in_ok-places.ensures)

pub returns-clause-small : goal.returns-clause-small
returns-clause-small g c =
    let plan = c.args.plan.now in
    let q = plan.query in
    let rows = g.M.RowsByKey.rows c.args.rows.now in
    let places = shown_places (reads_one plan) plan.schema q in
    few_shown q places (plan_found plan (comparisons_of plan.schema q.conds) rows)
    (subst (λ ps. length (plan_found plan ps rows) < 2 ^ 63) (c.as_slice-2.ensures ∙ c.in_ok-comparisons.ensures ∙ ap (comparisons_of plan.schema) c.as_slice.ensures) c.in_ok-ordered.ensures.few)
