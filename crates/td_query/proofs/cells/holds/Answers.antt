use Rattle.std.proofs.Common.{◌-◌, length, false, ap, sym, ◌∙◌}
use Rattle.std.specs.Option.{option_map_or}
use Rattle.td_model.specs.Tags.{cell_matches, tag_matches}
use Rattle.td_query.proofs.Places.{at_column, at_tag_place}
use Rattle.td_query.proofs.cells.holds.Goals as goal

pub returns-then-place-columns : goal.returns-then-place-columns
returns-then-place-columns c =
    let columns = c.args.columns.now in
    let line = c.args.line.now in
    let p = c.args.comparison.now in
    let here = c.column_cell-cell.ensures in
    c.cell_matches.ensures
    ∙ ap (λ o. option_map_or (λ a. cell_matches p.op a p.operand) o false) (sym (at_column columns line.name.now line.tags.now line.ts line.values.now p.place c.column_cell-cell.result c.if-place-eq0.false c.if-place-columns.true here))

pub returns : goal.returns
returns c =
    let columns = c.args.columns.now in
    let line = c.args.line.now in
    let p = c.args.comparison.now in
    c.tag_matches.ensures
    ∙ ap (λ tags. tag_matches (p.place - 1 - length columns) p.op p.operand tags) c.as_slice.ensures
    ∙ ap (λ o. option_map_or (λ a. cell_matches p.op a p.operand) o false) (sym (at_tag_place columns line.name.now line.tags.now line.ts line.values.now p.place c.if-place-columns.false))
