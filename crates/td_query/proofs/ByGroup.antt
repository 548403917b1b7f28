-- The windows of groups, group by group.
use Rattle.std.proofs.Common.{◌≡◌, List, [], ◌∷◌, ◌++◌, map, reverse, refl, sym, ap, ◌∙◌}
use Rattle.std.specs.List.{flat_map}
use Rattle.std.proofs.lemmas.List.{map-append, append_assoc}
use Rattle.td_model.specs.declared.windows.WinRow.{WinRow}
use Rattle.td_query.specs.declared.gathering.Group.{Group}
use Rattle.td_query.specs.Gathered.{grouped_of, without_windows}
use Rattle.td_verdict.specs.Groups.{Grouped}
use Rattle.td_query.specs.Shown.{windows_in}
use Rattle.td_query.proofs.Picking.{backwards}

-- one group from the end of those that are left gets its windows
pub one_more : (windows : Group → List WinRow) (left : List Group) (last done : Group) (all : List Group) → done.windows ≡ windows last
    → map windows left ++ map windows_in (reverse (all ++ done ∷ [])) ≡ map windows (left ++ last ∷ []) ++ map windows_in (reverse all)
one_more windows left last done all e =
    ap (λ l. map windows left ++ map windows_in l) (backwards all done)
    ∙ ap (λ (w : List WinRow). map windows left ++ w ∷ map windows_in (reverse all)) e
    ∙ sym (append_assoc (map windows left) (windows last ∷ []) (map windows_in (reverse all)))
    ∙ ap (λ l. l ++ map windows_in (reverse all)) (sym (map-append windows left (last ∷ [])))

-- lists of which the parts are the same are the same
joined : {X : Type 0} → List (List X) → List X
joined [] = []
joined (xs ∷ xss) = xs ++ joined xss

joined_map : {X A : Type 0} (f : A → List X) (ps : List A) → joined (map f ps) ≡ flat_map f ps
unfolding joined
joined_map f [] = refl
joined_map f (p ∷ ps) = ap (λ l. f p ++ l) (joined_map f ps)

pub same_parts : {X A B : Type 0} (f : A → List X) (g : B → List X) (ps : List A) (qs : List B) → map f ps ≡ map g qs → flat_map f ps ≡ flat_map g qs
same_parts f g ps qs e = sym (joined_map f ps) ∙ ap joined e ∙ joined_map g qs

pub of_grouped : (windows : Grouped → List WinRow) (gs : List Grouped) → flat_map (λ (g : Group). windows (grouped_of g)) (map without_windows gs) ≡ flat_map windows gs
of_grouped windows [] = refl
of_grouped windows (g ∷ gs) = ap (λ l. windows g ++ l) (of_grouped windows gs)
