use Rattle.std.proofs.Common.{rules, ◌≡◌, ◌<◌, length, arith, List, Some, sym, ap, ◌∙◌}
use Rattle.std.proofs.lemmas.List.{length-map}
use Rattle.std.proofs.lemmas.Option.{slice_get-get_or}
use Rattle.td_layer.specs.declared.values.Cell.{Cell}
use Rattle.td_model.specs.State.{Rows}
use Rattle.std.specs.List.{slice_get}
use Rattle.td_verdict.specs.Groups.{Grouped}
use Rattle.td_query.specs.Read.{WithRows, grouped, all_grouped, listed, wanted_from}
use Rattle.td_query.proofs.Grouping.{set_at, opens}
use Rattle.td_query.proofs.groups.put_found.Goals as goal

abbrev with_part : List Cell → Rows → Grouped
with_part part rows = record { part = part; rows = rows }

pub returns : goal.returns
returns c =
    let plan = c.args.plan.now in
    let wanted = wanted_from plan.schema.columns c.args.comparisons.now plan.lo plan.hi (listed c.args.table.now) c.args.found in
    let g = c.index_mut-group.result.now in
    let next : WithRows = record { part = g.part; kept = c.put_table.new.rows } in
    let gs = c.group_for.new.groups.items in
    let at = c.in_ok-at.at in
    let long = length-map gs grouped in
    let opened = opens c.args.table.now.part.now c.new.result c.args.groups.now.items gs at c.new.ensures.empty c.in_ok-at.ensures in
    let low : at < length (all_grouped gs) = opened.0 in
    let inside : at < length gs = omega (arith, long) in
    let there = slice_get-get_or gs at g inside in
    let here : slice_get gs at ≡ Some g = first_of (search rules, grind (arith, there)) in
    let takes = ap (with_part g.part) c.in_ok-put_table.ensures in
    set_at c.group_for.new.groups.items c.in_ok-at.at g next wanted here takes
    ∙ sym (opened.1 wanted)
