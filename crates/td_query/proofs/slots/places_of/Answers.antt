use Rattle.std.proofs.Common.{◌++◌, ◌∷◌, [], List, take, sym, ap, ◌∙◌, subst}
use Rattle.std.proofs.lemmas.List.{take_more}
use Rattle.td_model.specs.declared.language.Item.{Item}
use Rattle.td_query.specs.Slots.{AreCovered}
use Rattle.td_query.proofs.Covering.{covered_more}
use Rattle.td_query.proofs.slots.places_of.Goals as goal

pub items-preserved : goal.items-preserved
items-preserved c =
    let items = c.args.items.now in
    let i = c.items.item-index in
    let e = c.item-item.result in
    subst (λ (is : List Item). AreCovered c.args.columns.now c.add_place.new.places.items is)
    (sym (take_more items i e c.items-test.true ∙ ap (λ x. take i items ++ x ∷ []) (sym c.item-item.is)))
    (covered_more c.args.columns.now c.items.places.items c.add_place.new.places.items c.in_ok-add_place.ensures.kept (take i items) e c.items.invariant c.in_ok-add_place.ensures.covered)
