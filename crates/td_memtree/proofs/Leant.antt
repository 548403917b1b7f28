-- Keys that part the sides of forks which are turned.
use Rattle.std.proofs.Common.{ℕ, ◌+◌, ◌^◌, ◌<◌, List, ◌++◌, length, ap, subst, arith, length-append}
use Rattle.td_layer.specs.declared.values.Key.{Key}
use Rattle.td_layer.specs.Keys.{key_cmp}
use Rattle.td_memtree.specs.declared.branch.Fork.{Fork}
use Rattle.td_memtree.specs.Parts.{Parts}
use Rattle.td_memtree.proofs.Keyed.{keys_total}
use Rattle.td_memtree.proofs.Around.{before_back, before_both, from_front, from_both, before_over, from_over}
use Rattle.td_memtree.proofs.AtFork.{AtFork}

-- the right side d, a fork f, is too heavy beside l
module _ {T : Type 0} {d : List (Key × T) × ℕ} {f : Fork T} (here : AtFork d f) (l : List (Key × T)) (key : Key) (p : Parts key l d.0) where
  from_all : Parts key l (f.left.0 ++ f.right.0)
  from_all = subst (Parts key l) here.pairs p

  pub left_first : Parts key l f.left.0
  left_first = record { before = p.before; from = from_front key_cmp key f.left.0 f.right.0 from_all.from }

  pub left_done : Parts f.key (l ++ f.left.0) f.right.0
  left_done = record {
    before = before_both key_cmp f.key l f.left.0 (before_over key_cmp keys_total key f.key l f.left.0 here.fit.left_some p.before left_first.from here.fit.parted.before) here.fit.parted.before;
    from = here.fit.parted.from;
  }

  pub left_fits : length l + length d.0 < 2 ^ 32 → length l + length f.left.0 < 2 ^ 32
  left_fits few = omega (arith, few, ap length here.pairs, length-append f.left.0 f.right.0)

  module _ {i : Fork T} (below : AtFork f.left i) where
    inner_from : Parts key l (i.left.0 ++ i.right.0)
    inner_from = subst (Parts key l) below.pairs left_first

    inner_before : Parts f.key (i.left.0 ++ i.right.0) f.right.0
    inner_before = subst (λ m. Parts f.key m f.right.0) below.pairs here.fit.parted

    pub left_inner_first : Parts key l i.left.0
    left_inner_first = record { before = p.before; from = from_front key_cmp key i.left.0 i.right.0 inner_from.from }

    pub left_inner_last : Parts f.key i.right.0 f.right.0
    left_inner_last = record { before = before_back key_cmp f.key i.left.0 i.right.0 inner_before.before; from = here.fit.parted.from }

    pub left_inner_done : Parts i.key (l ++ i.left.0) (i.right.0 ++ f.right.0)
    left_inner_done = record {
      before = before_both key_cmp i.key l i.left.0 (before_over key_cmp keys_total key i.key l i.left.0 below.fit.left_some p.before left_inner_first.from below.fit.parted.before) below.fit.parted.before;
      from = from_both key_cmp i.key i.right.0 f.right.0 below.fit.parted.from (from_over key_cmp keys_total i.key f.key i.right.0 f.right.0 below.fit.right_some below.fit.parted.from left_inner_last.before here.fit.parted.from);
    }

-- the left side d, a fork f, is too heavy beside r
module _ {T : Type 0} {d : List (Key × T) × ℕ} {f : Fork T} (here : AtFork d f) (r : List (Key × T)) (key : Key) (p : Parts key d.0 r) where
  before_all : Parts key (f.left.0 ++ f.right.0) r
  before_all = subst (λ m. Parts key m r) here.pairs p

  pub right_last : Parts key f.right.0 r
  right_last = record { before = before_back key_cmp key f.left.0 f.right.0 before_all.before; from = p.from }

  pub right_done : Parts f.key f.left.0 (f.right.0 ++ r)
  right_done = record {
    before = here.fit.parted.before;
    from = from_both key_cmp f.key f.right.0 r here.fit.parted.from (from_over key_cmp keys_total f.key key f.right.0 r here.fit.right_some here.fit.parted.from right_last.before p.from);
  }

  pub right_fits : length d.0 + length r < 2 ^ 32 → length f.right.0 + length r < 2 ^ 32
  right_fits few = omega (arith, few, ap length here.pairs, length-append f.left.0 f.right.0)

  module _ {i : Fork T} (below : AtFork f.right i) where
    outer_from : Parts f.key f.left.0 (i.left.0 ++ i.right.0)
    outer_from = subst (Parts f.key f.left.0) below.pairs here.fit.parted

    outer_before : Parts key (i.left.0 ++ i.right.0) r
    outer_before = subst (λ m. Parts key m r) below.pairs right_last

    pub right_inner_last : Parts key i.right.0 r
    right_inner_last = record { before = before_back key_cmp key i.left.0 i.right.0 outer_before.before; from = p.from }

    pub right_inner_first : Parts f.key f.left.0 i.left.0
    right_inner_first = record { before = here.fit.parted.before; from = from_front key_cmp f.key i.left.0 i.right.0 outer_from.from }

    pub right_inner_done : Parts i.key (f.left.0 ++ i.left.0) (i.right.0 ++ r)
    right_inner_done = record {
      before = before_both key_cmp i.key f.left.0 i.left.0 (before_over key_cmp keys_total f.key i.key f.left.0 i.left.0 below.fit.left_some here.fit.parted.before right_inner_first.from below.fit.parted.before) below.fit.parted.before;
      from = from_both key_cmp i.key i.right.0 r below.fit.parted.from (from_over key_cmp keys_total i.key key i.right.0 r below.fit.right_some below.fit.parted.from right_inner_last.before p.from);
    }
