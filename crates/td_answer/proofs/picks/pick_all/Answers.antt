use Rattle.std.proofs.Common.{List, sym, ap, ◌∙◌, arith}
use Rattle.std.specs.List.{flat_map}
use Rattle.td_verdict.specs.Answers.{Found, put_in_time}
use Rattle.td_answer.specs.Picks.{Listed, keyed, listed, tables_of, table_found, plan_found}
use Rattle.td_answer.proofs.Lists.{no_more, put_next, put_none}
use Rattle.td_answer.proofs.picks.pick_all.Goals.{in-Some+in_ok-pick_table, in_default}
use Rattle.td_answer.proofs.picks.pick_all.Goals as goal

pub loop-at-preserved : goal.loop-at-preserved
loop-at-preserved g c =
    let columns = c.args.plan.now.schema.columns in
    let f : Listed → Found = table_found c.args.plan.now c.args.comparisons.now (g.M.RowsByKey.rows c.args.rows.now) in
    let xs : List Listed = tables_of c.args.plan.now in
    let found : Found = keyed columns c.loop-at.picked.entries in
    let next : Found = keyed columns c.match-table_at.picked.entries in
    let all : Found = plan_found c.args.plan.now c.args.comparisons.now (g.M.RowsByKey.rows c.args.rows.now) in
    elim c.match-table_at.branch [
      | in-Some+in_ok-pick_table w ↦ put_next f xs c.loop-at.at found all c.loop-at.invariant (listed w.in-Some.table) next (sym w.in-Some.ensures) (ap (λ v. keyed columns v.entries) w.picked-is ∙ w.in_ok-pick_table.ensures)
      | in_default w ↦ put_none f xs c.loop-at.at found all c.loop-at.invariant next (sym w.in_default.ensures) (ap (λ v. keyed columns v.entries) w.picked-is)
    ]

pub returns : goal.returns
returns g c =
    let columns = c.args.plan.now.schema.columns in
    let f : Listed → Found = table_found c.args.plan.now c.args.comparisons.now (g.M.RowsByKey.rows c.args.rows.now) in
    let none = no_more c.loop-at.at c.args.plan.now.tables c.args.plan.now.names c.args.plan.now.tags (omega arith) in
    ap (λ (xs : List Listed). put_in_time (keyed columns c.loop-at.picked.entries) (flat_map f xs)) (sym none) ∙ c.loop-at.invariant
