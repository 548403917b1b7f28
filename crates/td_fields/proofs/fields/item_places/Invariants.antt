use Rattle.std.proofs.Common.{◌≡◌, ◌++◌, drop}
use Rattle.std.specs.List.{filter_map}
use Rattle.td_model.specs.declared.language.Item.{Item}
use Rattle.td_verdict.specs.Answers.{item_place}
use Rattle.td_fields.proofs.fields.item_places.Given as goal

abbrev pub invariant-loop-item : goal.invariant-loop-item
invariant-loop-item l = filter_map (λ (i : Item). item_place l.schema i.what) l.items ≡ l.places ++ filter_map (λ (i : Item). item_place l.schema i.what) (drop l.item-index l.items)
