-- What the pending branches of a walk stand for, and why there are never more than 75.
use Rattle.std.specs.Prelude.{ℕ, suc, ◌+◌, ◌*◌, ◌^◌, ◌≤◌, List, [], ◌∷◌, ◌++◌, Option, Some, None, IsSome}
use Rattle.std.specs.Borrow.{Bor}
use Rattle.td_layer.specs.declared.values.Key.{Key}
use Rattle.td_memtree.specs.declared.branch.Branch.{Branch}

module _ {T : Type 0} where
  -- a pending branch has all its pairs still to give
  abbrev pub own_pairs : Option (Bor (Branch T)) → List (Key × T)
  own_pairs None = []
  own_pairs (Some b) = b.now.0

  abbrev pub own_forks : Option (Bor (Branch T)) → ℕ
  own_forks None = 0
  own_forks (Some b) = b.now.1

  -- the pairs that are left; of the pending branches the last is the next
  abbrev pub left_pairs : List (Option (Bor (Branch T))) → List (Key × T)
  left_pairs [] = []
  left_pairs (p ∷ ps) = left_pairs ps ++ own_pairs p

-- leaves so few that a branch of them may stand k levels down: each level has at most three quarters of the leaves
-- above it
abbrev pub IsLight : ℕ → ℕ → Type 0
IsLight k leaves = leaves * 4 ^ k ≤ 3 ^ k * 2 ^ 32

-- what may be pending k levels down
pub record IsPending {T : Type 0} (k : ℕ) (p : Option (Bor (Branch T))) : Type 0 where
  pub some : IsSome p
  pub light : IsLight k (own_forks p + 1)

-- the branches that are pending from level k on
abbrev pub ArePending : {T : Type 0} → ℕ → List (Option (Bor (Branch T))) → Type 0
ArePending k [] = Unit {0}
ArePending k (p ∷ ps) = IsPending k p × ArePending (suc k) ps
