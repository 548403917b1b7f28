use Rattle.std.proofs.Common.{◌∙◌, ap, sym, subst, ◌-◌, ◌+◌, filter}
use Rattle.td_model.specs.Tags.{matching}
use Rattle.td_bind.specs.Tables.{is_planned, AreThere}
use Rattle.td_bind.proofs.ByNumber.{planned_from_found, matching_there}
use Rattle.td_bind.proofs.tables.planned_indexed.Goals as goal

pub planned_among-requires : goal.planned_among-requires
planned_among-requires c =
    let p = c.args.first.now in
    let catalog = c.args.catalog.now.catalog in
    let found = c.as_slice-found.ensures ∙ c.in_ok-found.ensures ∙ ap (matching (p.place - (c.args.columns + 1)) p.op p.operand) c.requires.subtables in
    subst (AreThere catalog) (sym found) (matching_there (p.place - (c.args.columns + 1)) p.op p.operand catalog)

pub returns : goal.returns
returns c =
    let p = c.args.first.now in
    let catalog = c.args.catalog.now.catalog in
    let found = c.as_slice-found.ensures ∙ c.in_ok-found.ensures ∙ ap (matching (p.place - (c.args.columns + 1)) p.op p.operand) c.requires.subtables in
    c.in_ok-planned.ensures
    ∙ ap (filter (is_planned c.args.stable c.args.columns c.args.comparisons.now catalog)) found
    ∙ planned_from_found c.args.stable c.args.columns c.args.comparisons.now p catalog c.requires.first
