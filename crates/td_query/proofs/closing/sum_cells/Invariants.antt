use Rattle.std.proofs.Common.{◌≡◌, List, map, take}
use Rattle.td_model.specs.declared.language.Item.{Item}
use Rattle.td_query.specs.Sums.{sum_of}
use Rattle.td_verdict.specs.Windowed.{Keyed, item_cell}
use Rattle.td_query.proofs.closing.sum_cells.Given as goal

abbrev pub invariant-items : goal.invariant-items
invariant-items l =
    (rows : List Keyed) → l.sum ≡ sum_of l.asked.places.now rows
    → l.cells ≡ map (λ (i : Item). item_cell l.asked.plan.now.schema.columns l.asked.plan.now.query.parts l.part (record { start = l.start; end = l.end; rows = rows }) i.what) (take l.item-index l.items)
