-- What is known of a branch d once it is a fork f, or a leaf.
use Rattle.std.proofs.Common.{◌≡◌, ℕ, ◌+◌, List, ◌++◌, sym, ap, ◌∙◌, subst}
use Rattle.std.specs.Arc.{arc_value}
use Rattle.std.specs.declared.alloc.Global.{Global}
use Rattle.std.specs.declared.sync.Arc.{Arc}
use Rattle.td_layer.specs.declared.values.Key.{Key}
use Rattle.td_memtree.specs.declared.branch.Fork.{Fork}
use Rattle.td_memtree.specs.declared.branch.Leaf.{Leaf}
use Rattle.td_memtree.specs.declared.branch.Shape.{Shape}
use Rattle.td_memtree.specs.declared.branch.Shape.TheVariants.{OfLeaf, OfFork}
use Rattle.td_memtree.specs.Branches.{fork_seen, seen, LeafIsFit, ForkIsFit, IsFit}

pub record AtFork {T : Type 0} (d : List (Key × T) × ℕ) (f : Fork T) : Type 0 where
  pub is : d ≡ (f.left.0 ++ f.right.0, f.left.1 + f.right.1 + 1)
  pub pairs : d.0 ≡ f.left.0 ++ f.right.0
  pub forks : d.1 ≡ f.left.1 + f.right.1 + 1
  pub fit : ForkIsFit f

pub at_fork : {T : Type 0} {shape : Shape T} {d : List (Key × T) × ℕ} {a : Arc (Fork T) Global} {f : Fork T} → seen shape ≡ d → IsFit shape → shape ≡ OfFork a → f ≡ arc_value a → AtFork d f
at_fork {T} {shape} {d} {a} {f} view_is fit is here =
    let e : d ≡ fork_seen f = sym view_is ∙ ap seen is ∙ ap fork_seen (sym here) in
    record { is = e; pairs = ap (λ (b : List (Key × T) × ℕ). b.0) e; forks = ap (λ (b : List (Key × T) × ℕ). b.1) e; fit = rw here (subst IsFit is fit) }

pub record AtLeaf {T : Type 0} (d : List (Key × T) × ℕ) (l : Leaf T) : Type 0 where
  pub pairs : d.0 ≡ l.pairs.items
  pub forks : d.1 ≡ 0
  pub fit : LeafIsFit l.pairs.items

pub at_leaf : {T : Type 0} {shape : Shape T} {d : List (Key × T) × ℕ} {a : Arc (Leaf T) Global} {l : Leaf T} → seen shape ≡ d → IsFit shape → shape ≡ OfLeaf a → l ≡ arc_value a → AtLeaf d l
at_leaf {T} {shape} {d} {a} {l} view_is fit is here =
    let e : d ≡ (l.pairs.items, 0) = sym view_is ∙ ap seen is ∙ ap (λ (x : Leaf T). (x.pairs.items, 0)) (sym here) in
    record { pairs = ap (λ (b : List (Key × T) × ℕ). b.0) e; forks = ap (λ (b : List (Key × T) × ℕ). b.1) e; fit = rw here (subst IsFit is fit) }
