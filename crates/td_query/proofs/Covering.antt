-- The tallies of the columns that aggregates are asked of.
use Rattle.std.proofs.Common.{◌≡◌, ℕ, Bool, true, false, ◌||◌, List, [], ◌∷◌, ◌++◌, Option, Some, None, refl, ap, ◌∙◌, arith}
use Rattle.std.specs.List.{slice_get}
use Rattle.std.specs.Option.{option_map, option_map_or}
use Rattle.std.proofs.lemmas.Bool.Decides.{nat_tests}
use Rattle.std.proofs.lemmas.Option.{slice_get-map}
use Rattle.td_aggr.specs.Aggregates.{aggregate}
use Rattle.td_aggr.specs.Laws.{shows_aggregates}
use Rattle.td_aggr.specs.Tallies.{shown, tally_of}
use Rattle.td_aggr.specs.declared.tally.Tally.{Tally}
use Rattle.td_layer.specs.declared.values.Cell.TheVariants as cell
use Rattle.td_layer.specs.declared.values.Func.{Func}
use Rattle.td_model.specs.declared.catalog.Column.{Column}
use Rattle.td_model.specs.declared.language.Item.{Item}
use Rattle.td_model.specs.declared.language.ItemKind.{ItemKind}
use Rattle.td_model.specs.declared.language.ItemKind.TheVariants as item
use Rattle.td_query.specs.Cuts.{values}
use Rattle.td_query.specs.Slots.{same_place, has_place, IsCovered, AreCovered}
use Rattle.td_query.specs.Sums.{sum_of, shown_at}
use Rattle.td_verdict.specs.Windowed.{Keyed}
use Rattle.td_verdict.specs.Writes.{place_of}

same_self : (p : Option ℕ) → same_place p p ≡ true
same_self None = refl
same_self (Some n) = grind (arith, nat_tests)

has_pushed : (p : Option ℕ) (ps : List (Option ℕ)) → has_place p (ps ++ p ∷ []) ≡ true
has_pushed p [] = ap (λ b. b || false) (same_self p)
has_pushed p (x ∷ ps) = go (same_place p x) (has_pushed p ps)
  where
    go : (b : Bool) → has_place p (ps ++ p ∷ []) ≡ true → (b || has_place p (ps ++ p ∷ [])) ≡ true
    go true rest = refl
    go false rest = rest

pub covered_pushed : (columns : List Column) (f : Func) (name : List ℕ) (ps : List (Option ℕ)) → IsCovered columns (ps ++ place_of columns name ∷ []) (item.Fun f name)
covered_pushed columns f name ps = has_pushed (place_of columns name) ps

covered_kept : (columns : List Column) (old new : List (Option ℕ)) → ((p : Option ℕ) → has_place p old ≡ true → has_place p new ≡ true) → (i : ItemKind) → IsCovered columns old i → IsCovered columns new i
covered_kept columns old new kept (item.Fun f name) h = kept (place_of columns name) h
covered_kept columns old new kept item.WStart h = h
covered_kept columns old new kept item.WEnd h = h
covered_kept columns old new kept item.CountAll h = h
covered_kept columns old new kept item.TbName h = h
covered_kept columns old new kept (item.Col name) h = h

pub covered_more : (columns : List Column) (old new : List (Option ℕ)) → ((p : Option ℕ) → has_place p old ≡ true → has_place p new ≡ true) → (is : List Item) (i : Item) → AreCovered columns old is → IsCovered columns new i.what → AreCovered columns new (is ++ i ∷ [])
covered_more columns old new kept [] i all one = (one, tt)
covered_more columns old new kept (j ∷ is) i all one = (covered_kept columns old new kept j.what all.0, covered_more columns old new kept is i all.1 one)

pub shown_is : (places : List (Option ℕ)) (rows : List Keyed) (slot : ℕ) (p : Option ℕ) (f : Func) → slice_get places slot ≡ Some p → shown_at (sum_of places rows) slot f ≡ aggregate f (values p rows)
shown_is places rows slot p f here =
    ap (λ (o : Option Tally). option_map_or (λ (t : Tally). shown t f) o cell.Null)
    (slice_get-map (λ (place : Option ℕ). tally_of (values place rows)) places slot ∙ ap (option_map (λ (place : Option ℕ). tally_of (values place rows))) here)
    ∙ shows_aggregates f (values p rows)
