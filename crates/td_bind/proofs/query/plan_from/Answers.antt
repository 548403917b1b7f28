use Rattle.std.proofs.Common.{map, sym, subst, ap, ◌∙◌}
use Rattle.td_verdict.specs.Fields.{comparisons_of}
use Rattle.td_verdict.specs.Plans.{planned}
use Rattle.td_bind.specs.Tables.{AreThere, numbers_of, tags_at, name_at, part_at}
use Rattle.td_bind.proofs.Planned.{planned_there, plan_made}
use Rattle.td_bind.proofs.query.plan_from.Goals as goal

pub parts_of-requires : goal.parts_of-requires
parts_of-requires c =
    subst (AreThere c.args.catalog.now.catalog) (sym (c.as_slice-3.ensures ∙ c.in_ok-tables.ensures))
    (planned_there c.args.source c.len-columns.result c.as_slice-comparisons.result.now c.args.catalog.now.catalog)

pub tags_of-requires : goal.tags_of-requires
tags_of-requires c =
    subst (AreThere c.args.catalog.now.catalog) (sym (c.as_slice-4.ensures ∙ c.in_ok-tables.ensures))
    (planned_there c.args.source c.len-columns.result c.as_slice-comparisons.result.now c.args.catalog.now.catalog)

pub names_of-requires : goal.names_of-requires
names_of-requires c =
    subst (AreThere c.args.catalog.now.catalog) (sym (c.as_slice-5.ensures ∙ c.in_ok-tables.ensures))
    (planned_there c.args.source c.len-columns.result c.as_slice-comparisons.result.now c.args.catalog.now.catalog)

pub returns : goal.returns
returns c =
    let q = c.args.query.now in
    let s = c.args.schema.now in
    let ps = c.as_slice-comparisons.result.now in
    let tables = c.in_ok-tables.tables in
    let catalog = c.args.catalog.now.catalog in
    let are = c.as_slice-comparisons.ensures ∙ c.in_ok-comparisons.ensures ∙ ap (comparisons_of s) c.as_slice.ensures in
    let t = c.in_ok-tables.ensures ∙ ap (λ columns. numbers_of (planned c.args.source columns ps catalog)) c.len-columns.ensures in
    let p = c.in_ok-parts.ensures ∙ (λ j. map (part_at s (c.as_slice-2.ensures j) catalog) (c.as_slice-3.ensures j)) in
    let g = c.in_ok-tags.ensures ∙ ap (map (tags_at catalog)) c.as_slice-4.ensures in
    let n = c.in_ok-names.ensures ∙ ap (map (name_at catalog)) c.as_slice-5.ensures in
    plan_made q c.args.source s catalog ps are c.in_ok-query.query c.in_ok-schema.schema tables c.in_ok-parts.parts c.in_ok-tags.tags c.in_ok-names.names c.range_of-lo.result.0 c.range_of-lo.result.1 c.find_target-target.result
    c.in_ok-query.ensures.same c.in_ok-schema.ensures.same t p g n c.range_of-lo.ensures.low c.range_of-lo.ensures.high c.find_target-target.ensures
