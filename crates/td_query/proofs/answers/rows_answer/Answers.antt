use Rattle.std.proofs.Common.{◌≡◌, ◌<◌, ◌^◌, List, Option, Some, None, length, ap, subst, ◌∙◌}
use Rattle.std.specs.Prelude.{IfSome}
use Rattle.td_model.specs.State.{Rows}
use Rattle.td_verdict.specs.declared.comparison.Comparison.{Comparison}
use Rattle.td_verdict.specs.Answers.{Found, answer_of, shown_places}
use Rattle.td_verdict.specs.Fields.{comparisons_of}
use Rattle.td_verdict.specs.Plans.{reads_one}
use Rattle.td_query.specs.Picks.{found_rows}
use Rattle.td_query.specs.Planned.{found_of, row_answer}
use Rattle.td_query.proofs.answers.rows_answer.Goals as goal

pub returns-clause-few : goal.returns-clause-few
returns-clause-few g c = go (g.Q.Snapshot.rows c.args.snap.now) c.in_ok-picked.ensures.found
  where
    go : (rows : Option Rows) → IfSome rows (λ all. found_rows c.args.plan.now.schema.columns c.in_ok-picked.picked.entries ≡ found_of c.args.plan.now c.as_slice-2.result.now all)
        → IfSome rows (λ all. length (row_answer c.args.plan.now (comparisons_of c.args.plan.now.schema c.args.plan.now.query.conds) all) < 2 ^ 63)
    go None is = is
    go (Some all) is =
        let plan = c.args.plan.now in
        let q = plan.query in
        subst (λ (found : Found). length (answer_of q (shown_places (reads_one plan) plan.schema q) found) < 2 ^ 63)
        (is ∙ ap (λ (ps : List Comparison). found_of plan ps all) (c.as_slice-2.ensures ∙ c.in_ok-comparisons.ensures ∙ ap (comparisons_of plan.schema) c.as_slice.ensures))
        c.in_ok-all.ensures.few
