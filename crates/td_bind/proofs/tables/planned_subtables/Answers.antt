use Rattle.std.proofs.Common.{◌∙◌, ap, sym, subst, filter}
use Rattle.td_bind.specs.Tables.{is_planned, AreThere}
use Rattle.td_bind.proofs.ByNumber.{planned_from_children, children_there}
use Rattle.td_bind.proofs.tables.planned_subtables.Goals as goal

pub planned_among-requires : goal.planned_among-requires
planned_among-requires c = subst (AreThere c.args.catalog.now.catalog) (sym c.subtables_of-all.ensures) (children_there c.args.stable c.args.catalog.now.catalog)

pub returns : goal.returns
returns c =
    let catalog = c.args.catalog.now.catalog in
    c.in_ok-planned-3.ensures
    ∙ ap (filter (is_planned c.args.stable c.args.columns c.args.comparisons.now catalog)) c.subtables_of-all.ensures
    ∙ planned_from_children c.args.stable c.args.columns c.args.comparisons.now catalog
