-- What a tree is seen as.
use Rattle.std.specs.Prelude.{ℕ, List, [], Option, Some, None}
use Rattle.td_layer.specs.declared.values.Key.{Key}

-- the pairs of a tree's root, if it has one
abbrev pub pairs : {T : Type 0} → Option (List (Key × T) × ℕ) → List (Key × T)
pairs None = []
pairs (Some root) = root.0
