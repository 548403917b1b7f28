use Rattle.std.proofs.Common.{List, sym, subst}
use Rattle.td_verdict.specs.Groups.{Grouped}
use Rattle.td_query.specs.Read.{all_grouped, AreGood}
use Rattle.td_query.proofs.Goodness.{given_good, first_good}
use Rattle.td_query.proofs.gathering.gather.Goals as goal

pub returns-clause-ready : goal.returns-clause-ready
returns-clause-ready g c in_time k d h =
    let hi = c.args.plan.now.hi in
    let one = c.has_one_group-one.result in
    let first = subst (λ (gs : List Grouped). AreGood hi gs) (sym c.in_ok-gathered.ensures) (first_good hi one) in
    record {
      in_order = c.in_ok-groups.ensures.in_order k d h;
      rows = given_good hi in_time one (all_grouped c.read_tables.new.groups.items) c.in_ok-groups.groups c.in_ok-groups.ensures.groups (c.in_ok-read_tables.ensures.good first) k d h;
    }
