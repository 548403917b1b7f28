use Rattle.std.proofs.Common.{◌∙◌, ap, sym, subst, filter}
use Rattle.std.specs.Option.{option_to_list}
use Rattle.td_bind.specs.Tables.{is_planned, AreThere}
use Rattle.td_bind.proofs.Named.{planned_from_named, cell_there}
use Rattle.td_bind.proofs.tables.planned_named.Goals as goal

pub planned_among-requires : goal.planned_among-requires
planned_among-requires c =
    let catalog = c.args.catalog.now.catalog in
    let found = c.as_slice-found.ensures ∙ c.in_ok-found.ensures ∙ ap option_to_list c.table_of_cell.ensures in
    subst (AreThere catalog) (sym found) (cell_there c.args.named.now.operand catalog)

pub returns : goal.returns
returns c =
    let catalog = c.args.catalog.now.catalog in
    let found = c.as_slice-found.ensures ∙ c.in_ok-found.ensures ∙ ap option_to_list c.table_of_cell.ensures in
    c.in_ok-planned.ensures
    ∙ ap (filter (is_planned c.args.stable c.args.columns c.args.comparisons.now catalog)) found
    ∙ planned_from_named c.args.stable c.args.columns c.args.comparisons.now c.args.named.now catalog c.requires c.is_valid.ensures
