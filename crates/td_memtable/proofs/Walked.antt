-- A walk over the cuts from the first key on.
use Rattle.std.proofs.Common.{◌≡◌, true, List, [], ◌∷◌, refl, ap, arith}
use Rattle.std.specs.Ordering.{is_le}
use Rattle.std.proofs.lemmas.Bool.Decides.{nat_tests}
use Rattle.td_layer.specs.declared.values.Key.{Key}
use Rattle.td_layer.specs.Keys.{key_cmp}
use Rattle.td_memtree.specs.Keys.{pairs_from}

abbrev pub first_key : Key
first_key = record { table = 0; ts = 0 }

-- no key is before the first
from_first : (k : Key) → is_le (key_cmp first_key k) ≡ true
from_first k = grind (arith, nat_tests)

module _ {T : Type 0} where
  pub all_from_first : (pairs : List (Key × T)) → pairs_from first_key pairs ≡ pairs
  all_from_first [] = refl
  all_from_first (e ∷ es) = rw (from_first e.0) (ap (λ r. e ∷ r) (all_from_first es))
