use Rattle.std.proofs.Common.{◌≡◌, ◌≢◌, List, Option, Some, None, sym, ap, ◌∙◌, subst}
use Rattle.std.specs.Prelude.{IfSome}
use Rattle.td_aggr.specs.Aggregates.{HaveOwnKeys}
use Rattle.td_layer.specs.Keys.{InKeyOrder}
use Rattle.td_layer.specs.Scans.{rows_in}
use Rattle.td_model.specs.State.{Rows}
use Rattle.td_verdict.specs.Groups.{Grouped, put_group}
use Rattle.td_query.specs.Planned.{picked_in}
use Rattle.td_query.specs.Read.{listed}
use Rattle.td_query.specs.Summed.{wanted_by, AllGroups}
use Rattle.td_query.specs.Totals.{AreSummed}
use Rattle.td_query.proofs.Reading.{own_keys}
use Rattle.td_query.proofs.Wanted.{wanted_is_picked}
use Rattle.td_query.proofs.totals.sum_one.Goals as goal

pub returns-clause-found : goal.returns-clause-found
returns-clause-found g c = go (g.Q.Snapshot.rows c.args.snap.now) c.in_ok-found.ensures.found c.in_ok-found.ensures.in_order
  where
    go : (rows : Option Rows) → IfSome rows (λ all. c.in_ok-found.found ≡ rows_in c.args.table.now.number c.args.asked.now.plan.now.lo c.args.asked.now.plan.now.hi all) → IfSome rows InKeyOrder
        → IfSome rows (λ all. (gs : List Grouped) → AllGroups (λ k. k.table ≢ c.args.table.now.number) gs → AreSummed c.args.asked.now.frame c.args.asked.now.places.now c.args.groups.now.items gs
        → AreSummed c.args.asked.now.frame c.args.asked.now.places.now c.put_sums.new.groups.items (put_group c.args.table.now.part.now (picked_in c.args.asked.now.plan.now c.args.asked.now.comparisons.now all (listed c.args.table.now)) gs))
    go None is order = is
    go (Some all) is order = λ gs keys summed.
        let asked = c.args.asked.now in
        let plan = asked.plan.now in
        let t = listed c.args.table.now in
        let same : wanted_by asked c.args.table.now c.as_slice.result.now ≡ picked_in plan asked.comparisons.now all t =
        ap (wanted_by asked c.args.table.now) (c.as_slice.ensures ∙ is) ∙ wanted_is_picked plan.schema.columns asked.comparisons.now plan.lo plan.hi t all in
        subst (λ (rows : Rows). AreSummed asked.frame asked.places.now c.put_sums.new.groups.items (put_group t.part rows gs)) same
        (c.in_ok-put_sums.ensures (subst (λ (rows : Rows). HaveOwnKeys rows) (sym same) (own_keys plan asked.comparisons.now t all order)) gs keys summed)
