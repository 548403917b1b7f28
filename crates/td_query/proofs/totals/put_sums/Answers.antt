use Rattle.std.proofs.Common.{◌≡◌, ◌≢◌, ◌<◌, length, arith, slice_set, Some, List, rules, sym, subst}
use Rattle.std.specs.List.{slice_get}
use Rattle.std.proofs.lemmas.Option.{slice_get-get_or}
use Rattle.td_layer.specs.declared.values.Key.{Key}
use Rattle.td_query.specs.Read.{listed, is_wanted}
use Rattle.td_query.specs.Summed.{wanted_by, AllKeys}
use Rattle.td_query.specs.Totals.{WithSums, IsSummed, AreSummed}
use Rattle.td_verdict.specs.Groups.{Grouped, with_rows}
use Rattle.td_query.proofs.Apart.{sums_put}
use Rattle.td_query.proofs.Reading.{opened, set_summed, apart_rows, table_is}
use Rattle.td_query.proofs.totals.put_sums.Goals as goal

pub returns : goal.returns
returns c = λ own gs keys all.
    let asked = c.args.asked.now in
    let f = asked.frame in
    let places = asked.places.now in
    let t = c.args.table.now in
    let rows = wanted_by asked t c.args.found.now in
    let at = c.in_ok-at.at in
    let K : Key → Type 0 = λ k. k.table ≢ t.number in
    let o = opened f places K t.part.now rows c.new.result c.args.groups.now.items c.group_for.new.groups.items gs at c.new.ensures.empty c.in_ok-at.ensures all keys in
    let g : WithSums = c.index_mut-group.result.now in
    let next : WithSums = record { part = g.part; kept = c.sum_table.new.windows } in
    let inside : at < length c.group_for.new.groups.items = c.in_ok-at.ensures.0 in
    let there = slice_get-get_or c.group_for.new.groups.items at g inside in
    let here : slice_get c.group_for.new.groups.items at ≡ Some g = first_of (search rules, grind (arith, there)) in
    let step : (x : Grouped) → IsSummed f places g x → AllKeys K x.rows → IsSummed f places next (with_rows x rows) =
    λ x is others. record {
      part = is.part;
      sums = sums_put f places c.sum_table.new.windows x.rows rows own (apart_rows t.number rows x.rows (table_is t.number 0 0 (is_wanted asked.plan.now.schema.columns asked.comparisons.now asked.plan.now.lo asked.plan.now.hi (listed t)) c.args.found.now) others) (c.in_ok-sum_table.ensures x.rows is.sums);
    } in
    subst (λ (l : List Grouped). AreSummed f places (slice_set c.group_for.new.groups.items at next) l) (sym o.same)
    (set_summed f places K c.group_for.new.groups.items o.groups at g next rows here o.summed o.keys step)
