use Rattle.std.proofs.Common.{Bool, ℕ, Option, Some, cond, ap, ◌∙◌}
use Rattle.td_layer.specs.declared.values.Cell.{Cell}
use Rattle.td_query.specs.Slots.{has_place}
use Rattle.td_query.specs.Sums.{Sum, shown_at}
use Rattle.td_verdict.specs.Windowed.{column_aggregate, truth_cell}
use Rattle.td_verdict.specs.Writes.{place_of}
use Rattle.td_query.proofs.Covering.{shown_is}
use Rattle.td_query.proofs.closing.sum_cell.Goals as goal

pub returns : goal.returns
returns c = λ rows same.
    let columns = c.args.columns.now in
    let name = c.args.name.now in
    let places = c.args.places.now in
    let f = c.args.func in
    let slot = c.slot_of-slot.result in
    let p = place_of columns name in
    let here = c.slot_of-slot.ensures (ap (λ (q : Option ℕ). has_place q places) c.place_of.ensures ∙ c.requires.covered) in
    c.cell_as.ensures
    ∙ ap (λ (x : Cell). cond c.gives_truth.result (truth_cell x) x)
    (c.cell.ensures ∙ ap (λ (s : Sum). shown_at s slot f) same ∙ shown_is places rows slot p f (here ∙ ap Some c.place_of.ensures))
    ∙ ap (λ (b : Bool). cond b (truth_cell (column_aggregate columns f name rows)) (column_aggregate columns f name rows)) c.gives_truth.ensures
