-- Where a key stands among pairs in the order of their keys.
use Rattle.std.specs.Prelude.{ℕ, suc, Bool, true, false, List, [], ◌∷◌}
use Rattle.std.specs.Ordering.{match_ordering}
use Rattle.std.specs.declared.cmp.Ordering.{Ordering}

module _ {K X : Type 0} (R : K → K → Ordering) (k : K) where
  -- how many pairs stand before it
  abbrev pub place : List (K × X) → ℕ
  place [] = 0
  place (e ∷ es) = match_ordering (R k e.0) 0 0 (suc (place es))

  -- whether one of them is its own
  abbrev pub is_there : List (K × X) → Bool
  is_there [] = false
  is_there (e ∷ es) = match_ordering (R k e.0) false true (is_there es)
