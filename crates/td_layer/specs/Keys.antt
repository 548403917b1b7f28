-- The order of keys, and lists whose keys rise.
use Rattle.std.specs.Prelude.{◌≡◌, List, [], ◌∷◌}
use Rattle.std.specs.declared.cmp.Ordering.{Ordering}
use Rattle.std.specs.declared.cmp.Ordering.TheVariants.{Less}
use Rattle.std.specs.Ordering.{nat_cmp, ordering_then}
use Rattle.td_layer.specs.declared.values.Key.{Key}

-- keys are ordered by table, then by timestamp
abbrev pub key_cmp : Key → Key → Ordering
key_cmp a b = ordering_then (nat_cmp a.table b.table) (nat_cmp a.ts b.ts)

module _ {K X : Type 0} (cmp : K → K → Ordering) where
  -- each of these pairs has a key after this one
  abbrev pub AllAfter : K → List (K × X) → Type 0
  AllAfter k [] = Unit {0}
  AllAfter k (e ∷ es) = (cmp k e.0 ≡ Less) × AllAfter k es

  -- the keys rise
  abbrev pub RisesBy : List (K × X) → Type 0
  RisesBy [] = Unit {0}
  RisesBy (e ∷ es) = AllAfter e.0 es × RisesBy es

-- pairs in the order of their keys, each key once
abbrev pub InKeyOrder : {T : Type 0} → List (Key × T) → Type 0
InKeyOrder pairs = RisesBy key_cmp pairs
