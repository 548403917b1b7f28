use Rattle.std.proofs.Common.{◌≡◌, map, take}
use Rattle.td_model.specs.declared.language.Item.{Item}
use Rattle.td_query.specs.Cuts.{window_of_cut}
use Rattle.td_verdict.specs.Windowed.{item_cell}
use Rattle.td_query.proofs.items.window_cells.Given as goal

abbrev pub invariant-items : goal.invariant-items
invariant-items l = l.cells ≡ map (λ (i : Item). item_cell l.plan.schema.columns l.plan.query.parts l.part (window_of_cut l.window) i.what) (take l.item-index l.items)
