use Rattle.std.proofs.Common.{◌≡◌, ◌≤◌, ◌<◌, ◌^◌, length, drop, take, ap, sym, subst, ◌∙◌}
use Rattle.std.specs.List.{AllByRecursion}
use Rattle.td_layer.specs.declared.values.Key.{Key}
use Rattle.td_layer.specs.declared.values.Row.{Row}
use Rattle.td_limits.specs.declared.limits.TheConstants.{LAST_TIMESTAMP}
use Rattle.td_model.specs.declared.language.Query.{Query}
use Rattle.td_model.specs.declared.plan.Plan.{Plan}
use Rattle.td_model.specs.State.{State, Rows}
use Rattle.td_verdict.specs.Fields.{comparisons_of}
use Rattle.td_verdict.specs.Plans.{plan_of, reads_one}
use Rattle.td_verdict.specs.Answers.{row_answer, answer_of, shown_places, picked}
use Rattle.td_fields.proofs.OneTable.{one_is}
use Rattle.td_answer.specs.Picks.{plan_found}
use Rattle.td_answer.proofs.Sound.{rows_late, source_time}
use Rattle.td_answer.proofs.SamePicks.{plan_picks}
use Rattle.td_answer.proofs.answers.answer.Goals as goal

-- what is shown of what the plan picks is the answer
whole : (q : Query) (s : State) (p : Plan) (kept : Rows) → p ≡ plan_of q s.catalog → plan_found p (comparisons_of p.schema p.query.conds) kept ≡ picked q s
    → answer_of p.query (shown_places (reads_one p) p.schema p.query) (plan_found p (comparisons_of p.schema p.query.conds) kept) ≡ row_answer q s
whole q s p kept plan found =
    ap (answer_of p.query (shown_places (reads_one p) p.schema p.query)) found
    ∙ ap (λ (x : Plan). answer_of x.query (shown_places (reads_one x) x.schema x.query) (picked q s)) plan
    ∙ ap (λ b. answer_of q (shown_places b (plan_of q s.catalog).schema q) (picked q s)) (one_is q s.catalog)

pub returns-clause-part : goal.returns-clause-part
returns-clause-part g c = λ q s sound plan rows.
    let p = c.args.plan.now in
    let kept : Rows = g.M.RowsByKey.rows c.args.rows.now in
    let late : AllByRecursion (λ (e : Key × Row). e.0.ts ≤ LAST_TIMESTAMP) kept = subst (λ (rs : Rows). AllByRecursion (λ (e : Key × Row). e.0.ts ≤ LAST_TIMESTAMP) rs) (sym rows) (rows_late s sound) in
    let found : plan_found p (comparisons_of p.schema p.query.conds) kept ≡ picked q s = plan_picks q s.catalog p kept plan late (source_time q s.catalog sound.catalog) ∙ ap (λ rs. picked q (record s { rows = rs })) rows in
    c.in_ok-shown.ensures.part ∙ ap (λ xs. take c.args.count (drop c.args.skip xs)) (whole q s p kept plan found)

pub returns-clause-small : goal.returns-clause-small
returns-clause-small g c = λ q s sound plan rows.
    let p = c.args.plan.now in
    let kept : Rows = g.M.RowsByKey.rows c.args.rows.now in
    let late : AllByRecursion (λ (e : Key × Row). e.0.ts ≤ LAST_TIMESTAMP) kept = subst (λ (rs : Rows). AllByRecursion (λ (e : Key × Row). e.0.ts ≤ LAST_TIMESTAMP) rs) (sym rows) (rows_late s sound) in
    let found : plan_found p (comparisons_of p.schema p.query.conds) kept ≡ picked q s = plan_picks q s.catalog p kept plan late (source_time q s.catalog sound.catalog) ∙ ap (λ rs. picked q (record s { rows = rs })) rows in
    subst (λ xs. length xs < 2 ^ 63) (whole q s p kept plan found) c.in_ok-shown.ensures.small
