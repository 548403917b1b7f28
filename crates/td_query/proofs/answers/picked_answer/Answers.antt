use Rattle.std.proofs.Common.{drop, take, ap, ◌∙◌, arith}
use Rattle.td_verdict.specs.Answers.{answer_of, cut, shown_places}
use Rattle.td_verdict.specs.Plans.{reads_one}
use Rattle.td_query.specs.Picks.{found_rows, picked_shown}
use Rattle.td_query.proofs.Few.{few_picked}
use Rattle.td_query.proofs.Picking.{shown_found}
use Rattle.td_query.proofs.answers.picked_answer.Goals as goal

pub returns-clause-part : goal.returns-clause-part
returns-clause-part c =
    let plan = c.args.plan.now in
    let q = plan.query in
    let columns = plan.schema.columns in
    let entries = c.args.picked.entries in
    let places = c.as_slice-2.result.now in
    c.in_ok-all.ensures
    ∙ ap (λ cs. picked_shown cs places c.part-rows.result.now) c.as_slice-columns.ensures
    ∙ ap (picked_shown columns places) (c.part-rows.ensures ∙ ap (λ rows. take c.args.count (drop c.args.skip (cut q rows))) (c.as_slice.ensures.value ∙ c.in_ok-ordered.ensures))
    ∙ shown_found q columns places c.args.skip c.args.count entries
    ∙ ap (λ ps. take c.args.count (drop c.args.skip (answer_of q ps (found_rows columns entries)))) (c.as_slice-2.ensures ∙ c.in_ok-places.ensures)

pub returns-clause-few : goal.returns-clause-few
returns-clause-few c =
    let plan = c.args.plan.now in
    let q = plan.query in
    few_picked q plan.schema.columns (shown_places (reads_one plan) plan.schema q) c.args.picked.entries c.in_ok-ordered.ordered.items c.in_ok-ordered.ensures (omega arith)
