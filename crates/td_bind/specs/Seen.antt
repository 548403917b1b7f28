-- The texts that a set of byte strings has.
use Rattle.std.specs.Prelude.{ℕ, List, map, Vec}

abbrev pub texts : {A : Type 0} → List (Vec ℕ A) → List (List ℕ)
texts keys = map (λ k. k.items) keys
