use Rattle.std.proofs.Common.{◌-◌, Some, refl, ap, sym, ◌∙◌}
use Rattle.std.specs.List.{slice_get}
use Rattle.std.proofs.lemmas.Option.{slice_get-get_or}
use Rattle.td_verdict.specs.Fields.{value_cell}
use Rattle.td_query.proofs.Places.{behind_there}
use Rattle.td_query.proofs.cells.column_cell.Goals as goal

pub returns : goal.returns
returns c =
    let columns = c.args.columns.now in
    let column = c.index-columns-at.result in
    let here = slice_get-get_or columns c.args.at column c.requires ∙ ap Some (sym c.index-columns-at.is) in
    behind_there columns c.args.ts c.args.values.now c.args.at column (slice_get c.args.values.now (c.args.at - 1)) c.if-at-eq0.false here refl
    ∙ ap Some (sym (c.value_cell.ensures ∙ ap (λ d. value_cell d.kind c.value_in.result) (sym c.index-columns-at.is) ∙ ap (value_cell column.kind) c.value_in.ensures))
