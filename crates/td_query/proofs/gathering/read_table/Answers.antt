use Rattle.std.proofs.Common.{◌≡◌, Option, Some, None, sym, ap, ◌∙◌, subst}
use Rattle.std.specs.Prelude.{IfSome}
use Rattle.td_layer.specs.Scans.{rows_in}
use Rattle.td_model.specs.State.{Rows}
use Rattle.td_verdict.specs.Groups.{put_group}
use Rattle.td_query.specs.Planned.{picked_in}
use Rattle.td_query.specs.Read.{all_grouped, listed, wanted_from, AreGood}
use Rattle.td_query.proofs.Wanted.{wanted_is_picked, wanted_good, group_good}
use Rattle.td_query.proofs.gathering.read_table.Goals as goal

pub returns-clause-found : goal.returns-clause-found
returns-clause-found g c = go (g.Q.Snapshot.rows c.args.snap.now) c.in_ok-found.ensures.found
  where
    go : (rows : Option Rows) → IfSome rows (λ all. c.in_ok-found.found ≡ rows_in c.args.table.now.number c.args.plan.now.lo c.args.plan.now.hi all)
        → IfSome rows (λ all. all_grouped c.put_found.new.groups.items ≡ put_group c.args.table.now.part.now (picked_in c.args.plan.now c.args.comparisons.now all (listed c.args.table.now)) (all_grouped c.args.groups.now.items))
    go None is = is
    go (Some all) is =
        let plan = c.args.plan.now in
        let t = listed c.args.table.now in
        let gs = all_grouped c.args.groups.now.items in
        c.in_ok-put_found.ensures
        ∙ ap (λ found. put_group t.part (wanted_from plan.schema.columns c.args.comparisons.now plan.lo plan.hi t found) gs) is
        ∙ ap (λ rows. put_group t.part rows gs) (wanted_is_picked plan.schema.columns c.args.comparisons.now plan.lo plan.hi t all)

pub returns-clause-good : goal.returns-clause-good
returns-clause-good g c good =
    let plan = c.args.plan.now in
    let t = listed c.args.table.now in
    subst (AreGood plan.hi) (sym c.in_ok-put_found.ensures) (group_good plan.hi t.part _ (all_grouped c.args.groups.now.items) good (wanted_good plan.schema.columns c.args.comparisons.now plan.lo plan.hi t c.in_ok-found.found c.in_ok-found.ensures.values))
