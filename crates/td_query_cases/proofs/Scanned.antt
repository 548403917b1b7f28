-- Rows with values such as columns hold.
use Rattle.std.proofs.Common.{◌++◌, ◌∷◌, [], ℕ, List, Bool, true, false, cond, ◌&&◌, ◌==◌, nat_le, map, filter, take, drop}
use Rattle.std.specs.Prelude.{insert}
use Rattle.std.proofs.lemmas.List.Elements.{All-append, All-cons, All-drop, All-take, All-from_recursion, recursion_from_All}
use Rattle.std.specs.List.{AllByRecursion}
use Rattle.td_layer.specs.Columns.{IsColumnValue, AreColumnValues}
use Rattle.td_layer.specs.Scans.{rows_in}
use Rattle.td_layer.specs.declared.values.Key.{Key}
use Rattle.td_layer.specs.declared.values.Row.{Row}
use Rattle.td_layer.specs.declared.values.Value.{Value}

module _ (table lo hi : ℕ) where
  abbrev is_in : Key × Row → Bool
  is_in e = (e.0.table == table) && (nat_le lo e.0.ts && nat_le e.0.ts hi)

  good_at : (e : Key × Row) (es : List (Key × Row)) (b : Bool) → AreColumnValues e.1.values → AllByRecursion (λ (row : ℕ × Row). AreColumnValues row.1.values) (rows_in table lo hi es)
      → AllByRecursion (λ (row : ℕ × Row). AreColumnValues row.1.values) (map (λ (e : Key × Row). (e.0.ts, e.1)) (cond b (e ∷ filter is_in es) (filter is_in es)))
  good_at e es true here rest = (here, rest)
  good_at e es false here rest = rest

  pub good_in : (rows : List (Key × Row)) → AllByRecursion (λ (e : Key × Row). AreColumnValues e.1.values) rows → AllByRecursion (λ (row : ℕ × Row). AreColumnValues row.1.values) (rows_in table lo hi rows)
  good_in [] good = tt
  good_in (e ∷ es) good = good_at e es (is_in e) good.0 (good_in es good.1)

pub one_more : (vs : List Value) (v : Value) → AreColumnValues vs → IsColumnValue v → AreColumnValues (vs ++ v ∷ [])
one_more [] v all new = (new, tt)
one_more (w ∷ vs) v all new = (all.0, one_more vs v all.1 new)

-- an item that is put in passes too
pub all_insert : {X : Type 0} (P : X → Type 0) (xs : List X) (at : ℕ) (x : X) → AllByRecursion P xs → P x → AllByRecursion P (insert xs at x)
all_insert P xs at x all one =
    let old = All-from_recursion P xs all in
    recursion_from_All P (take at xs ++ x ∷ drop at xs)
    (All-append P (take at xs) (x ∷ drop at xs) (All-take P at xs old) (All-cons P x (drop at xs) one (All-drop P at xs old)))
