use Rattle.std.proofs.Common.{◌≡◌, ◌<◌, ◌^◌, Bool, List, Option, Some, None, take, drop, length, ap, ◌∙◌, subst}
use Rattle.std.specs.Prelude.{IfSome}
use Rattle.std.specs.List.{flat_map}
use Rattle.td_model.specs.State.{Rows}
use Rattle.td_model.specs.declared.windows.WinRow.{WinRow}
use Rattle.td_verdict.specs.Fields.{comparisons_of}
use Rattle.td_verdict.specs.Answered.{window_rows, answer_of_groups}
use Rattle.td_verdict.specs.Arranged.{answer_of_rows}
use Rattle.td_verdict.specs.Groups.{first_groups, put_tables, has_one_group}
use Rattle.td_verdict.specs.declared.comparison.Comparison.{Comparison}
use Rattle.td_query.specs.Planned.{tables_of, picked_in, groups_of, groups_over}
use Rattle.td_query.specs.Totals.{AreSummed}
use Rattle.td_query.proofs.GroupRows.{picked_late}
use Rattle.td_query.proofs.answers.summed_answer.Goals as goal

pub returns-clause-part : goal.returns-clause-part
returns-clause-part g c = go (g.Q.Snapshot.rows c.args.snap.now) c.in_ok-gathered.ensures.found
  where
    go : (rows : Option Rows) → IfSome rows (λ all. AreSummed c.args.frame c.as_slice-4.result.now c.in_ok-gathered.gathered.items (put_tables (picked_in c.args.plan.now c.as_slice-3.result.now all) (first_groups c.has_one_group-one.result) (tables_of c.args.plan.now)))
        → IfSome rows (λ all. c.in_ok-all.all ≡ take c.args.count (drop c.args.skip (answer_of_groups c.args.plan.now.schema.columns c.args.plan.now.query (groups_of c.args.plan.now (comparisons_of c.args.plan.now.schema c.args.plan.now.query.conds) all))))
    go None is = is
    go (Some all) is =
        let plan = c.args.plan.now in
        let q = plan.query in
        let one = c.has_one_group-one.result in
        let ps = c.as_slice-3.result.now in
        c.in_ok-all.ensures.part
        ∙ ap (λ ws. take c.args.count (drop c.args.skip (answer_of_rows q ws)))
        (c.in_ok-groups.ensures (put_tables (picked_in plan ps all) (first_groups one) (tables_of plan)) (picked_late plan ps one all c.requires.time) is
        ∙ ap (λ (b : Bool). flat_map (window_rows plan.schema.columns q) (groups_over b plan ps all)) c.has_one_group-one.ensures
        ∙ ap (λ (l : List Comparison). flat_map (window_rows plan.schema.columns q) (groups_over (has_one_group q) plan l all)) (c.as_slice-3.ensures ∙ c.in_ok-comparisons.ensures ∙ ap (comparisons_of plan.schema) c.as_slice.ensures))

pub returns-clause-few : goal.returns-clause-few
returns-clause-few g c = go (g.Q.Snapshot.rows c.args.snap.now) c.in_ok-gathered.ensures.found
  where
    go : (rows : Option Rows) → IfSome rows (λ all. AreSummed c.args.frame c.as_slice-4.result.now c.in_ok-gathered.gathered.items (put_tables (picked_in c.args.plan.now c.as_slice-3.result.now all) (first_groups c.has_one_group-one.result) (tables_of c.args.plan.now)))
        → IfSome rows (λ all. length (answer_of_groups c.args.plan.now.schema.columns c.args.plan.now.query (groups_of c.args.plan.now (comparisons_of c.args.plan.now.schema c.args.plan.now.query.conds) all)) < 2 ^ 63)
    go None is = is
    go (Some all) is =
        let plan = c.args.plan.now in
        let q = plan.query in
        let one = c.has_one_group-one.result in
        let ps = c.as_slice-3.result.now in
        subst (λ (ws : List WinRow). length (answer_of_rows q ws) < 2 ^ 63)
        (c.in_ok-groups.ensures (put_tables (picked_in plan ps all) (first_groups one) (tables_of plan)) (picked_late plan ps one all c.requires.time) is
        ∙ ap (λ (b : Bool). flat_map (window_rows plan.schema.columns q) (groups_over b plan ps all)) c.has_one_group-one.ensures
        ∙ ap (λ (l : List Comparison). flat_map (window_rows plan.schema.columns q) (groups_over (has_one_group q) plan l all)) (c.as_slice-3.ensures ∙ c.in_ok-comparisons.ensures ∙ ap (comparisons_of plan.schema) c.as_slice.ensures))
        c.in_ok-all.ensures.few
