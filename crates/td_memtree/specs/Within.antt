-- Pairs whose keys are from one key to another.
use Rattle.std.specs.Prelude.{Bool, not, ◌&&◌, List, filter}
use Rattle.std.specs.Ordering.{is_le}
use Rattle.td_layer.specs.declared.values.Key.{Key}
use Rattle.td_layer.specs.Keys.{key_cmp}

-- whether a key is from one key to another, both among them
abbrev pub is_within : Key → Key → Key → Bool
is_within lo hi key = is_le (key_cmp lo key) && is_le (key_cmp key hi)

module _ {T : Type 0} where
  -- the pairs of such keys, and the others
  abbrev pub pairs_within : Key → Key → List (Key × T) → List (Key × T)
  pairs_within lo hi pairs = filter (λ (e : Key × T). is_within lo hi e.0) pairs

  abbrev pub pairs_without : Key → Key → List (Key × T) → List (Key × T)
  pairs_without lo hi pairs = filter (λ (e : Key × T). not (is_within lo hi e.0)) pairs

  -- the pairs whose keys are not after this one
  abbrev pub pairs_to : Key → List (Key × T) → List (Key × T)
  pairs_to hi pairs = filter (λ (e : Key × T). is_le (key_cmp e.0 hi)) pairs
