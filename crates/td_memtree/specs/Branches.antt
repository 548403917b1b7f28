-- What a branch is seen as: its pairs in the order of their keys, and how many forks it has. A leaf has none.
use Rattle.std.specs.Prelude.{ℕ, ◌≡◌, ◌+◌, ◌^◌, ◌<◌, ◌≤◌, List, [], ◌++◌, length, Option, Some, None}
use Rattle.td_memtree.specs.declared.branch.Shape.{Shape}
use Rattle.td_memtree.specs.declared.branch.Shape.TheVariants.{OfLeaf, OfFork}
use Rattle.td_memtree.specs.declared.branch.Fork.{Fork}
use Rattle.td_layer.specs.declared.values.Key.{Key}
use Rattle.td_layer.specs.Keys.{InKeyOrder}
use Rattle.td_memtree.specs.Keys.{without, Balanced}
use Rattle.td_memtree.specs.Parts.{Parts}

-- the pairs of a fork
abbrev pub fork_pairs : {T : Type 0} → Fork T → List (Key × T)
fork_pairs f = f.left.0 ++ f.right.0

abbrev pub fork_seen : {T : Type 0} → Fork T → List (Key × T) × ℕ
fork_seen f = (fork_pairs f, f.left.1 + f.right.1 + 1)

abbrev pub seen : {T : Type 0} → Shape T → List (Key × T) × ℕ
seen (OfLeaf a) = (a.value.pairs.items, 0)
seen (OfFork a) = fork_seen a.value

-- The keys of pairs rise, and there are more of them than forks, so at least one in each leaf.
pub record IsSound {T : Type 0} (branch : List (Key × T) × ℕ) : Type 0 where
  pub rises : InKeyOrder branch.0
  pub full : branch.1 < length branch.0

-- the keys of a leaf rise, and it has a pair
pub record LeafIsFit {T : Type 0} (pairs : List (Key × T)) : Type 0 where
  pub rises : InKeyOrder pairs
  pub some : 0 < length pairs
  pub few : length pairs < 2 ^ 32

-- a fork's key parts its sides, which are balanced by their forks, and its counts are right
pub record ForkIsFit {T : Type 0} (f : Fork T) : Type 0 where
  pub rises : InKeyOrder (fork_pairs f)
  pub full : f.left.1 + f.right.1 + 1 < length (fork_pairs f)
  pub left_some : 0 < length f.left.0
  pub right_some : 0 < length f.right.0
  pub parted : Parts f.key f.left.0 f.right.0
  pub balanced : Balanced f.left.1 f.right.1
  pub forks : f.forks ≡ f.left.1 + f.right.1 + 1
  pub count : f.count ≡ length (fork_pairs f)

abbrev pub IsFit : {T : Type 0} → Shape T → Type 0
IsFit (OfLeaf a) = LeafIsFit a.value.pairs.items
IsFit (OfFork a) = ForkIsFit a.value

-- as many forks, or one more
abbrev pub MayGrow : ℕ → ℕ → Type 0
MayGrow old new = (old ≤ new) × (new ≤ old + 1)

-- What a removal of a key leaves of a branch: nothing of its only pair, or the others, with as many forks or one fewer.
abbrev pub IsTaken : {T : Type 0} → Key → List (Key × T) × ℕ → Option (List (Key × T) × ℕ) → Type 0
IsTaken key branch None = (without key branch.0 ≡ []) × (branch.1 ≡ 0)
IsTaken key branch (Some left) = (left.0 ≡ without key branch.0) × (left.1 ≤ branch.1) × (branch.1 ≤ left.1 + 1)
