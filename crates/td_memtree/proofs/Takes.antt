-- What a removal from one side of a fork leaves.
use Rattle.std.proofs.Common.{◌≡◌, ◌⊎◌, ℕ, ◌+◌, ◌^◌, ◌<◌, List, ◌++◌, length, Some, None, sym, ap, ◌∙◌, arith, length-append}
use Rattle.std.proofs.lemmas.List.{append-nil}
use Rattle.std.specs.declared.cmp.Ordering.{Ordering}
use Rattle.std.specs.declared.cmp.Ordering.TheVariants.{Less, Equal, Greater}
use Rattle.td_layer.specs.declared.values.Key.{Key}
use Rattle.td_layer.specs.Keys.{key_cmp}
use Rattle.td_memtree.specs.declared.branch.Fork.{Fork}
use Rattle.td_memtree.specs.Keys.{NearlyBalanced, without}
use Rattle.td_memtree.specs.Parts.{Parts}
use Rattle.td_memtree.specs.Branches.{IsTaken}
use Rattle.td_memtree.proofs.Keyed.{keys_total}
use Rattle.td_memtree.proofs.Around.{after_from, before_from}
use Rattle.td_memtree.proofs.Taken.{take_front, take_back, before_take, from_take, length_take}
use Rattle.td_memtree.proofs.AtFork.{AtFork}

-- the sides l and r of a branch d without the pair of a key k, parted by `key`
pub record IsTake {T : Type 0} (d : List (Key × T) × ℕ) (k : Key) (key : Key) (l r : List (Key × T) × ℕ) : Type 0 where
  pub parted : Parts key l.0 r.0
  pub nearly : NearlyBalanced l.1 r.1
  pub fits : length l.0 + length r.0 < 2 ^ 32
  pub is : IsTaken k d (Some (l.0 ++ r.0, l.1 + r.1 + 1))

module _ {T : Type 0} {d : List (Key × T) × ℕ} {f : Fork T} (here : AtFork d f) (k : Key) (few : length d.0 < 2 ^ 32) where
  long : length d.0 ≡ length f.left.0 + length f.right.0
  long = ap length here.pairs ∙ length-append f.left.0 f.right.0

  of_left : key_cmp k f.key ≡ Less → without k d.0 ≡ without k f.left.0 ++ f.right.0
  of_left h = ap (without k) here.pairs ∙ take_front key_cmp f.left.0 f.right.0 k (after_from key_cmp keys_total k f.key f.right.0 h here.fit.parted.from)

  of_right : (o : Ordering) → key_cmp k f.key ≡ o → (o ≡ Equal) ⊎ (o ≡ Greater) → without k d.0 ≡ f.left.0 ++ without k f.right.0
  of_right o h j = ap (without k) here.pairs ∙ take_back key_cmp f.left.0 f.right.0 k (before_from key_cmp keys_total k f.key f.left.0 o h j here.fit.parted.before)

  pub take_left : (l r : List (Key × T) × ℕ) → key_cmp k f.key ≡ Less → IsTaken k f.left (Some l) → r ≡ f.right → IsTake d k f.key l r
  take_left l r h a c =
      let p = length_take key_cmp f.left.0 k in
      let m : length l.0 ≡ length (without k f.left.0) = ap length a.0 in
      rw c (record {
        parted = record { before = rw a.0 (before_take key_cmp f.key f.left.0 k here.fit.parted.before); from = here.fit.parted.from };
        nearly = (omega (arith, a.1, a.2, here.fit.balanced.0, here.fit.balanced.1), omega (arith, a.1, a.2, here.fit.balanced.0, here.fit.balanced.1));
        fits = omega (arith, m, p.0, long, few);
        is = (rw a.0 (sym (of_left h)), omega (arith, a.1, here.forks), omega (arith, a.2, here.forks));
      })

  pub take_right : (l r : List (Key × T) × ℕ) (o : Ordering) → key_cmp k f.key ≡ o → (o ≡ Equal) ⊎ (o ≡ Greater) → l ≡ f.left → IsTaken k f.right (Some r) → IsTake d k f.key l r
  take_right l r o h j c a =
      let p = length_take key_cmp f.right.0 k in
      let m : length r.0 ≡ length (without k f.right.0) = ap length a.0 in
      rw c (record {
        parted = record { before = here.fit.parted.before; from = rw a.0 (from_take key_cmp f.key f.right.0 k here.fit.parted.from) };
        nearly = (omega (arith, a.1, a.2, here.fit.balanced.0, here.fit.balanced.1), omega (arith, a.1, a.2, here.fit.balanced.0, here.fit.balanced.1));
        fits = omega (arith, m, p.0, long, few);
        is = (rw a.0 (sym (of_right o h j)), omega (arith, a.1, here.forks), omega (arith, a.2, here.forks));
      })

  -- a side that had one pair is gone
  pub gone_left : (r : List (Key × T) × ℕ) → key_cmp k f.key ≡ Less → IsTaken k f.left None → r ≡ f.right → IsTaken k d (Some r)
  gone_left r h a c = rw c (sym (of_left h ∙ ap (λ t. t ++ f.right.0) a.0), omega (arith, a.1, here.forks), omega (arith, a.1, here.forks))

  pub gone_right : (l : List (Key × T) × ℕ) (o : Ordering) → key_cmp k f.key ≡ o → (o ≡ Equal) ⊎ (o ≡ Greater) → l ≡ f.left → IsTaken k f.right None → IsTaken k d (Some l)
  gone_right l o h j c a = rw c (sym (of_right o h j ∙ ap (λ t. f.left.0 ++ t) a.0 ∙ append-nil f.left.0), omega (arith, a.1, here.forks), omega (arith, a.1, here.forks))
