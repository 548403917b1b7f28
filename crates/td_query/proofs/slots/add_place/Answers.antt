use Rattle.std.proofs.Common.{◌≡◌, ◌++◌, ◌∷◌, [], ℕ, Option, List, true, sym, ap, ◌∙◌, subst}
use Rattle.td_model.specs.declared.language.ItemKind.{ItemKind}
use Rattle.td_model.specs.declared.language.ItemKind.TheVariants as item
use Rattle.td_query.specs.Slots.{has_place, IsCovered}
use Rattle.td_query.proofs.Covering.{covered_pushed}
use Rattle.td_query.proofs.slots.add_place.Goals as goal

pub returns-in_ok-push-clause-covered : goal.returns-in_ok-push-clause-covered
returns-in_ok-push-clause-covered c =
    let columns = c.args.columns.now in
    let old = c.args.places.now.items in
    let name = c.in-Fun.name in
    let all = c.in_ok-push.ensures.items ∙ ap (λ (p : Option ℕ). old ++ p ∷ []) c.place_of-place.ensures in
    subst (λ (i : ItemKind). IsCovered columns c.push.new.self.items i) (sym c.in-Fun.is)
    (subst (λ (ps : List (Option ℕ)). IsCovered columns ps (item.Fun c.in-Fun.field-0 name)) (sym all) (covered_pushed columns c.in-Fun.field-0 name old))

pub returns-else-not-has_place-clause-covered : goal.returns-else-not-has_place-clause-covered
returns-else-not-has_place-clause-covered c =
    let columns = c.args.columns.now in
    let old = c.args.places.now.items in
    let here : has_place c.place_of-place.result old ≡ true = ap (has_place c.place_of-place.result) (sym c.as_slice.ensures.value) ∙ sym c.has_place.ensures ∙ c.if-not-has_place.false in
    subst (λ (i : ItemKind). IsCovered columns old i) (sym c.in-Fun.is)
    (ap (λ (p : Option ℕ). has_place p old) (sym c.place_of-place.ensures) ∙ here)
