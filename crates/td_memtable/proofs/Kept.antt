-- What holds of each item of a map still holds after a put, at a key, and of some of them.
use Rattle.std.proofs.Common.{◌≡◌, ◌≤◌, Bool, true, false, cond, List, [], ◌∷◌, length, Option, Some, None, refl, arith, filter}
use Rattle.std.specs.Prelude.{IfSome}
use Rattle.std.specs.List.{AllByRecursion}
use Rattle.std.specs.Ordering.{match_ordering}
use Rattle.std.specs.Map.{lookup}
use Rattle.std.specs.BTreeMap.{insert_entry}
use Rattle.std.specs.declared.cmp.Ordering.{Ordering}
use Rattle.std.specs.declared.cmp.Ordering.TheVariants.{Less, Equal, Greater}
use Rattle.td_layer.specs.declared.values.Value.{Value}
use Rattle.td_layer.specs.Columns.{AreColumnCells}
use Rattle.td_layer.specs.Parts.{cells_over}

module _ {K X : Type 0} (R : K → K → Ordering) (P : K × X → Type 0) where
  -- a fact of pairs that may look at the key too, where equal keys can't be told apart by it
  pub all-put : (l : List (K × X)) (k : K) (v : X) → P (k, v) → ((j : K) → R k j ≡ Equal → P (j, v)) → AllByRecursion P l → AllByRecursion P (insert_entry R l k v)
  all-put [] k v p q a = (p, tt)
  all-put (x ∷ l) k v p q a = by (R k x.0) (q x.0) (all-put l k v p q a.1)
    where
      by : (r : Ordering) → (r ≡ Equal → P (x.0, v)) → AllByRecursion P (insert_entry R l k v) → AllByRecursion P (match_ordering r ((k, v) ∷ x ∷ l) ((x.0, v) ∷ l) (x ∷ insert_entry R l k v))
      by Less h i = (p, a)
      by Equal h i = (h refl, a.1)
      by Greater h i = (a.0, i)

module _ {X : Type 0} (P : X → Type 0) (p : X → Bool) where
  pub all-filter : (l : List X) → AllByRecursion P l → AllByRecursion P (filter p l)
  all-filter [] a = tt
  all-filter (x ∷ l) a = by (p x) (all-filter l a.1)
    where
      by : (b : Bool) → AllByRecursion P (filter p l) → AllByRecursion P (cond b (x ∷ filter p l) (filter p l))
      by true i = (a.0, i)
      by false i = i

  pub length-filter_le : (l : List X) → length (filter p l) ≤ length l
  length-filter_le [] = omega arith
  length-filter_le (x ∷ l) = by (p x) (length-filter_le l)
    where
      by : (b : Bool) → length (filter p l) ≤ length l → length (cond b (x ∷ filter p l) (filter p l)) ≤ length (x ∷ l)
      by true i = omega (arith, i)
      by false i = omega (arith, i)

-- the item that a look-up finds is one of them
pub found : {K X : Type 0} (t : K → Bool) (Q : X → Type 0) (l : List (K × X)) → AllByRecursion (λ (e : K × X). Q e.1) l → IfSome (lookup t l) Q
found t Q [] a = tt
found t Q (x ∷ l) a = by (t x.0) (found t Q l a.1)
  where
    by : (b : Bool) → IfSome (lookup t l) Q → IfSome (cond b (Some x.1) (lookup t l)) Q
    by true i = a.0
    by false i = i

pub cells_over-column : (cs ds : List (Option Value)) → AreColumnCells cs → AreColumnCells ds → AreColumnCells (cells_over cs ds)
cells_over-column [] ds a b = b
cells_over-column (c ∷ cs) [] a b = a
cells_over-column (Some v ∷ cs) (d ∷ ds) a b = (a.0, cells_over-column cs ds a.1 b.1)
cells_over-column (None ∷ cs) (d ∷ ds) a b = (b.0, cells_over-column cs ds a.1 b.1)
