-- Where the group of a part stands.
use Rattle.std.proofs.Common.{◌≡◌, ◌⊎◌, inl, inr, ◌≤◌, ◌<◌, ◌+◌, ℕ, zero, suc, List, [], ◌∷◌, map, length, Some, refl, sym, ap, ◌∙◌, subst, arith, insert, slice_set}
use Rattle.std.proofs.lemmas.List.{length-map}
use Rattle.std.specs.List.{slice_get}
use Rattle.std.proofs.lemmas.Bool.{cases_lt}
use Rattle.std.proofs.lemmas.Option.{slice_get-map, same_Some}
use Rattle.std.specs.Option.{option_map}
use Rattle.std.specs.Ordering.{match_ordering}
use Rattle.std.specs.declared.cmp.Ordering.TheVariants.{Less, Equal, Greater}
use Rattle.td_layer.specs.declared.values.Cell.{Cell}
use Rattle.td_model.specs.State.{Rows}
use Rattle.td_verdict.specs.Parts.{part_cmp}
use Rattle.td_verdict.specs.Groups.{Grouped, with_rows, empty_group, put_group}
use Rattle.td_query.specs.Read.{WithRows, grouped, all_grouped, keyed_rows, parts_of, parts_in, put_at, made_group, StandsAt, GoesTo, IsOpened, Opens}
use Rattle.td_query.specs.declared.rows.TimeKey.{TimeKey}
use Rattle.td_layer.specs.declared.values.Row.{Row}
use Rattle.std.specs.BTreeMap.{BTreeMap}
use Rattle.td_query.specs.declared.groups.Gathered.{Gathered}

module _ (part : List Cell) where
  -- the parts below a place are lesser
  abbrev pub AreLess : List (List Cell) → ℕ → Type 0
  AreLess parts place = (k : ℕ) → k < place → (p : List Cell) → slice_get parts k ≡ Some p → part_cmp part p ≡ Greater

  pub one_more : (parts : List (List Cell)) (place : ℕ) (p : List Cell) → AreLess parts place → slice_get parts place ≡ Some p → part_cmp part p ≡ Greater → AreLess parts (place + 1)
  one_more parts place p less e o k l x f = go (cases_lt k place)
    where
      go : (k < place) ⊎ (place ≤ k) → part_cmp part x ≡ Greater
      go (inl h) = less k h x f
      go (inr h) =
          let at : place ≡ k = omega arith in
          let same : p ≡ x = same_Some p x (sym e ∙ ap (slice_get parts) at ∙ f) in
          ap (part_cmp part) (sym same) ∙ o

  below : (p : List Cell) (ps : List (List Cell)) (place : ℕ) → AreLess (p ∷ ps) (suc place) → AreLess ps place
  below p ps place h k l x e = h (suc k) (omega arith) x e

  step : (g : Grouped) (gs : List Grouped) (rows : Rows) → part_cmp part g.part ≡ Greater → put_group part rows (g ∷ gs) ≡ g ∷ put_group part rows gs
  step g gs rows e = ap (λ o. match_ordering o (with_rows (empty_group part) rows ∷ g ∷ gs) (with_rows g rows ∷ gs) (g ∷ put_group part rows gs)) e

  stands_in : (gs : List Grouped) (place : ℕ) (p : List Cell) → AreLess (parts_in gs) place → slice_get (parts_in gs) place ≡ Some p → part_cmp part p ≡ Equal → (rows : Rows) → put_group part rows gs ≡ put_at place rows gs
  stands_in [] place p less e o rows = absurd (cc)
  stands_in (x ∷ gs) zero p less e o rows =
      let same : x.part ≡ p = cc in
      let here : part_cmp part x.part ≡ Equal = ap (part_cmp part) same ∙ o in
      ap (λ o. match_ordering o (with_rows (empty_group part) rows ∷ x ∷ gs) (with_rows x rows ∷ gs) (x ∷ put_group part rows gs)) here
  stands_in (x ∷ gs) (suc place) p less e o rows =
      step x gs rows (less zero (omega arith) x.part refl) ∙ ap (λ l. x ∷ l) (stands_in gs place p (below x.part (parts_in gs) place less) e o rows)

  goes_before_in : (gs : List Grouped) (place : ℕ) (p : List Cell) → AreLess (parts_in gs) place → slice_get (parts_in gs) place ≡ Some p → part_cmp part p ≡ Less → (rows : Rows) → put_group part rows gs ≡ put_at place rows (insert gs place (empty_group part))
  goes_before_in [] place p less e o rows = absurd (cc)
  goes_before_in (x ∷ gs) zero p less e o rows =
      let same : x.part ≡ p = cc in
      let here : part_cmp part x.part ≡ Less = ap (part_cmp part) same ∙ o in
      ap (λ o. match_ordering o (with_rows (empty_group part) rows ∷ x ∷ gs) (with_rows x rows ∷ gs) (x ∷ put_group part rows gs)) here
  goes_before_in (x ∷ gs) (suc place) p less e o rows =
      step x gs rows (less zero (omega arith) x.part refl) ∙ ap (λ l. x ∷ l) (goes_before_in gs place p (below x.part (parts_in gs) place less) e o rows)

  goes_last_in : (gs : List Grouped) (place : ℕ) → AreLess (parts_in gs) place → place ≡ length gs → (rows : Rows) → put_group part rows gs ≡ put_at place rows (insert gs place (empty_group part))
  goes_last_in [] zero less e rows = refl
  goes_last_in [] (suc place) less e rows = absurd (omega (arith, e))
  goes_last_in (x ∷ gs) zero less e rows = absurd (omega (arith, e))
  goes_last_in (x ∷ gs) (suc place) less e rows =
      step x gs rows (less zero (omega arith) x.part refl) ∙ ap (λ l. x ∷ l) (goes_last_in gs place (below x.part (parts_in gs) place less) (omega (arith, e)) rows)

  module _ (parts : List (List Cell)) (place : ℕ) (less : AreLess parts place) where
    less_in : (gs : List Grouped) → parts_in gs ≡ parts → AreLess (parts_in gs) place
    less_in gs same = subst (λ ps. AreLess ps place) (sym same) less

    pub stands : (p : List Cell) → place < length parts → slice_get parts place ≡ Some p → part_cmp part p ≡ Equal → StandsAt part parts place
    stands p inside e o = (inside, λ gs rows same. stands_in gs place p (less_in gs same) (ap (λ ps. slice_get ps place) same ∙ e) o rows)

    pub goes_before : (p : List Cell) → place ≤ length parts → slice_get parts place ≡ Some p → part_cmp part p ≡ Less → GoesTo part parts place
    goes_before p inside e o = (inside, λ gs rows same. goes_before_in gs place p (less_in gs same) (ap (λ ps. slice_get ps place) same ∙ e) o rows)

    pub goes_last : place ≡ length parts → GoesTo part parts place
    goes_last e = (omega (arith, e), λ gs rows same. let long : length (parts_in gs) ≡ length gs = length-map gs (λ (g : Grouped). g.part) in let even : length (parts_in gs) ≡ length parts = ap length same in goes_last_in gs place (less_in gs same) (omega (arith, e, long, even)) rows)

-- ---- groups that are gathered
pub part_at : {W : Type 0} (gs : List (Gathered W)) (place : ℕ) (g : Gathered W) → slice_get gs place ≡ Some g → slice_get (parts_of gs) place ≡ Some g.part
part_at {W} gs place g e = slice_get-map (λ (x : Gathered W). x.part) gs place ∙ ap (option_map (λ (x : Gathered W). x.part)) e

pub map-insert : {A B : Type 0} (f : A → B) (xs : List A) (at : ℕ) (x : A) → at ≤ length xs → map f (insert xs at x) ≡ insert (map f xs) at (f x)
map-insert f xs zero x h = refl
map-insert f [] (suc at) x h = absurd (omega arith)
map-insert f (y ∷ xs) (suc at) x h = ap (λ l. f y ∷ l) (map-insert f xs at x (omega arith))

-- a group that takes rows
pub set_at : (gs : List WithRows) (place : ℕ) (g next : WithRows) (rows : Rows) → slice_get gs place ≡ Some g → grouped next ≡ with_rows (grouped g) rows → all_grouped (slice_set gs place next) ≡ put_at place rows (all_grouped gs)
set_at [] place g next rows e is = absurd (cc)
set_at (x ∷ gs) zero g next rows e is =
    let same : x ≡ g = cc in
    ap (λ h. h ∷ all_grouped gs) (is ∙ ap (λ (y : WithRows). with_rows (grouped y) rows) (sym same))
set_at (x ∷ gs) (suc place) g next rows e is = ap (λ l. grouped x ∷ l) (set_at gs place g next rows e is)

parts_same : (gs : List WithRows) → parts_in (all_grouped gs) ≡ parts_of gs
parts_same [] = refl
parts_same (g ∷ gs) = ap (λ l. g.part ∷ l) (parts_same gs)

-- a group that was made has no rows
pub opens : (part : List Cell) (fresh : BTreeMap TimeKey Row) (old new : List WithRows) (place : ℕ) → fresh.entries ≡ [] → IsOpened part fresh old new place → Opens part (all_grouped old) (all_grouped new) place
opens part fresh old new place none (inside, inl (same, stands)) =
    let long = length-map new grouped in
    (omega (arith, inside, long), λ rows. stands.1 (all_grouped old) rows (parts_same old) ∙ ap (λ (l : List WithRows). put_at place rows (all_grouped l)) (sym same))
opens part fresh old new place none (inside, inr (made, goes)) =
    let long = length-map new grouped in
    let parts : length (parts_of old) ≡ length old = length-map old (λ (g : WithRows). g.part) in
    let low : place ≤ length (parts_of old) = goes.0 in
    let within : place ≤ length old = omega (arith, low, parts) in
    let empty : grouped (made_group part fresh) ≡ empty_group part = ap (λ (es : List (TimeKey × Row)). record { part = part; rows = keyed_rows es }) none in
    let all : all_grouped new ≡ insert (all_grouped old) place (empty_group part) =
    ap all_grouped made ∙ map-insert grouped old place (made_group part fresh) within ∙ ap (insert (all_grouped old) place) empty in
    (omega (arith, inside, long), λ rows. goes.1 (all_grouped old) rows (parts_same old) ∙ ap (put_at place rows) (sym all))
