use Rattle.std.proofs.Common.{◌≡◌, ◌<◌, ◌^◌, List, Option, Some, None, take, drop, map, length, ap, ◌∙◌, subst}
use Rattle.std.specs.Prelude.{IfSome}
use Rattle.std.specs.List.{flat_map}
use Rattle.td_model.specs.State.{Rows}
use Rattle.td_model.specs.declared.windows.WinRow.{WinRow}
use Rattle.td_verdict.specs.Fields.{comparisons_of}
use Rattle.td_verdict.specs.Answered.{window_rows, answer_of_groups}
use Rattle.td_verdict.specs.Arranged.{answer_of_rows}
use Rattle.td_query.specs.Gathered.{grouped_of, without_windows}
use Rattle.td_query.specs.Planned.{groups_of}
use Rattle.td_query.specs.declared.gathering.Group.{Group}
use Rattle.td_query.proofs.ByGroup.{of_grouped}
use Rattle.td_query.proofs.answers.gathered_answer.Goals as goal

pub returns-clause-part : goal.returns-clause-part
returns-clause-part g c = go (g.Q.Snapshot.rows c.args.snap.now) c.in_ok-groups.ensures.groups
  where
    go : (rows : Option Rows) → IfSome rows (λ all. c.in_ok-groups.groups ≡ map without_windows (groups_of c.args.plan.now (comparisons_of c.args.plan.now.schema c.args.plan.now.query.conds) all))
        → IfSome rows (λ all. c.in_ok-all.all ≡ take c.args.count (drop c.args.skip (answer_of_groups c.args.plan.now.schema.columns c.args.plan.now.query (groups_of c.args.plan.now (comparisons_of c.args.plan.now.schema c.args.plan.now.query.conds) all))))
    go None is = is
    go (Some all) is =
        let plan = c.args.plan.now in
        let q = plan.query in
        let columns = plan.schema.columns in
        c.in_ok-all.ensures.part
        ∙ ap (λ ws. take c.args.count (drop c.args.skip (answer_of_rows q ws)))
        (c.in_ok-finished.ensures ∙ ap (flat_map (λ (g : Group). window_rows columns q (grouped_of g))) is ∙ of_grouped (window_rows columns q) (groups_of plan (comparisons_of plan.schema q.conds) all))

pub returns-clause-few : goal.returns-clause-few
returns-clause-few g c = go (g.Q.Snapshot.rows c.args.snap.now) c.in_ok-groups.ensures.groups
  where
    go : (rows : Option Rows) → IfSome rows (λ all. c.in_ok-groups.groups ≡ map without_windows (groups_of c.args.plan.now (comparisons_of c.args.plan.now.schema c.args.plan.now.query.conds) all))
        → IfSome rows (λ all. length (answer_of_groups c.args.plan.now.schema.columns c.args.plan.now.query (groups_of c.args.plan.now (comparisons_of c.args.plan.now.schema c.args.plan.now.query.conds) all)) < 2 ^ 63)
    go None is = is
    go (Some all) is =
        let plan = c.args.plan.now in
        let q = plan.query in
        let columns = plan.schema.columns in
        subst (λ (ws : List WinRow). length (answer_of_rows q ws) < 2 ^ 63)
        (c.in_ok-finished.ensures ∙ ap (flat_map (λ (g : Group). window_rows columns q (grouped_of g))) is ∙ of_grouped (window_rows columns q) (groups_of plan (comparisons_of plan.schema q.conds) all))
        c.in_ok-all.ensures.few
