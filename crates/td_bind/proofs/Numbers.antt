-- A number that is found by a name is one of those that are given.
use Rattle.std.proofs.Common.{◌≡◌, ℕ, ◌+◌, ◌<◌, Bool, true, false, cond, List, length, Some, None, nat_lt, arith, refl}
use Rattle.std.specs.Option.{option_map}
use Rattle.std.proofs.lemmas.Bool.Decides.{nat_tests}
use Rattle.td_model.specs.Catalog.{Catalog, stable_named, table_named}
use Rattle.td_catalog.specs.Kept.{IsNumbered}

numbered : (b : Bool) (i count n : ℕ) → b ≡ nat_lt i count → option_map (λ i. i + 1) (cond b (Some i) None) ≡ Some n → IsNumbered n count
numbered true i count n e h = let same : i + 1 ≡ n = cc in let less : i < count = grind (arith, nat_tests) in (omega arith, omega arith)
numbered false i count n e h = absurd (cc)

pub stable_numbered : (name : List ℕ) (c : Catalog) (n : ℕ) → stable_named name c ≡ Some n → IsNumbered n (length c.stables)
stable_numbered name c n h = numbered _ _ _ n refl h

pub table_numbered : (name : List ℕ) (c : Catalog) (n : ℕ) → table_named name c ≡ Some n → IsNumbered n (length c.tables)
table_numbered name c n h = numbered _ _ _ n refl h
