-- Pairs on both sides of a key.
use Rattle.std.specs.Prelude.{◌≡◌, true, List, [], ◌∷◌}
use Rattle.std.specs.Ordering.{is_le}
use Rattle.std.specs.declared.cmp.Ordering.{Ordering}
use Rattle.std.specs.declared.cmp.Ordering.TheVariants.{Greater}
use Rattle.td_layer.specs.declared.values.Key.{Key}
use Rattle.td_layer.specs.Keys.{key_cmp}

module _ {K X : Type 0} (R : K → K → Ordering) where
  -- each of these pairs has a key before this one
  abbrev pub AllBefore : K → List (K × X) → Type 0
  AllBefore k [] = Unit {0}
  AllBefore k (e ∷ es) = (R k e.0 ≡ Greater) × AllBefore k es

  -- each of these pairs has a key that isn't before this one
  abbrev pub AllFrom : K → List (K × X) → Type 0
  AllFrom k [] = Unit {0}
  AllFrom k (e ∷ es) = (is_le (R k e.0) ≡ true) × AllFrom k es

-- a key parts the pairs before it from the others
pub record Parts {T : Type 0} (key : Key) (l r : List (Key × T)) : Type 0 where
  pub before : AllBefore key_cmp key l
  pub from : AllFrom key_cmp key r

-- the first of these pairs, if there is one, has this key
abbrev pub IsFirst : {K X : Type 0} → K → List (K × X) → Type 0
IsFirst k [] = Unit {0}
IsFirst k (e ∷ es) = e.0 ≡ k
