-- What calls find among pairs in the order of their keys, and the balance of nodes.
use Rattle.std.specs.Prelude.{ℕ, ◌+◌, ◌*◌, ◌≤◌, List, Option, filter}
use Rattle.std.specs.Ordering.{is_le}
use Rattle.std.specs.Map.{lookup, remove_entry}
use Rattle.std.specs.BTreeMap.{insert_entry, is_at}
use Rattle.td_layer.specs.declared.values.Key.{Key}
use Rattle.td_layer.specs.Keys.{key_cmp}

module _ {T : Type 0} where
  -- the item of a key, if there is one
  abbrev pub item_at : Key → List (Key × T) → Option T
  item_at key pairs = lookup (is_at (key_cmp key)) pairs

  -- the pairs with this item at the key
  abbrev pub with_item : Key → T → List (Key × T) → List (Key × T)
  with_item key item pairs = insert_entry key_cmp pairs key item

  -- the pairs without the pair of a key
  abbrev pub without : Key → List (Key × T) → List (Key × T)
  without key pairs = remove_entry (is_at (key_cmp key)) pairs

  -- the pairs whose keys are not before this one
  abbrev pub pairs_from : Key → List (Key × T) → List (Key × T)
  pairs_from key pairs = filter (λ (e : Key × T). is_le (key_cmp key e.0)) pairs

-- neither side is more than three times as heavy as the other, where a side weighs one more than its pairs
abbrev pub Balanced : ℕ → ℕ → Type 0
Balanced l r = (r + 1 ≤ 3 * (l + 1)) × (l + 1 ≤ 3 * (r + 1))

-- the same but for one pair more on a side, or one less on the other
abbrev pub NearlyBalanced : ℕ → ℕ → Type 0
NearlyBalanced l r = (r ≤ 3 * (l + 1) + 2) × (l ≤ 3 * (r + 1) + 2)
