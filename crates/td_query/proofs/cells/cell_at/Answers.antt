use Rattle.std.proofs.Common.{ap, sym, ◌∙◌}
use Rattle.std.specs.Option.{unwrap_or}
use Rattle.td_layer.specs.declared.values.Cell.TheVariants as cell
use Rattle.td_query.proofs.Places.{at_tag_place}
use Rattle.td_query.proofs.cells.cell_at.Goals as goal

pub returns : goal.returns
returns c =
    let line = c.args.line.now in
    c.in_ok-cell-2.ensures
    ∙ ap (λ o. unwrap_or o cell.Null) (sym (at_tag_place c.args.columns.now line.name.now line.tags.now line.ts line.values.now c.args.place c.if-place-columns.false))
