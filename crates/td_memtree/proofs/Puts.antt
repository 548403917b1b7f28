-- What a put into one side of a fork leaves.
use Rattle.std.proofs.Common.{◌≡◌, ◌⊎◌, ℕ, ◌+◌, ◌*◌, ◌^◌, ◌<◌, nat_le, true, List, ◌++◌, length, sym, ap, ◌∙◌, arith, length-append}
use Rattle.std.proofs.lemmas.Bool.{leb-true}
use Rattle.std.specs.declared.cmp.Ordering.{Ordering}
use Rattle.std.specs.declared.cmp.Ordering.TheVariants.{Less, Equal, Greater}
use Rattle.td_layer.specs.declared.values.Key.{Key}
use Rattle.td_layer.specs.Keys.{key_cmp}
use Rattle.td_memtree.specs.declared.branch.Fork.{Fork}
use Rattle.td_memtree.specs.Keys.{Balanced, NearlyBalanced, item_at, with_item}
use Rattle.td_memtree.specs.Parts.{Parts}
use Rattle.td_memtree.specs.Branches.{MayGrow}
use Rattle.td_memtree.proofs.Keyed.{keys_total}
use Rattle.td_memtree.proofs.Around.{put_front, put_back, find_front, find_back, length_put, after_from, before_from, before_put, from_put}
use Rattle.td_memtree.proofs.AtFork.{AtFork}

-- the sides l and r of a branch d with an item v at the key k, parted by `key`
pub record IsPut {T : Type 0} (d : List (Key × T) × ℕ) (k : Key) (v : T) (key : Key) (l r : List (Key × T) × ℕ) : Type 0 where
  pub is : l.0 ++ r.0 ≡ with_item k v d.0
  pub parted : Parts key l.0 r.0
  pub nearly : NearlyBalanced l.1 r.1
  pub fits : length l.0 + length r.0 < 2 ^ 32
  pub grown : MayGrow d.1 (l.1 + r.1 + 1)

module _ {T : Type 0} {d : List (Key × T) × ℕ} {f : Fork T} (here : AtFork d f) (k : Key) (v : T) (few : length d.0 + 1 < 2 ^ 32) where
  long : length d.0 ≡ length f.left.0 + length f.right.0
  long = ap length here.pairs ∙ length-append f.left.0 f.right.0

  pub put_left : (l r : List (Key × T) × ℕ) → key_cmp k f.key ≡ Less → l.0 ≡ with_item k v f.left.0 → MayGrow f.left.1 l.1 → r ≡ f.right → IsPut d k v f.key l r
  put_left l r h a g c =
      let p = length_put key_cmp f.left.0 k v in
      let m : length l.0 ≡ length (with_item k v f.left.0) = ap length a in
      rw c (record {
        is = rw a (sym (ap (with_item k v) here.pairs ∙ put_front key_cmp f.left.0 f.right.0 k v (after_from key_cmp keys_total k f.key f.right.0 h here.fit.parted.from)));
        parted = record { before = rw a (before_put key_cmp keys_total f.key f.left.0 k v h here.fit.parted.before); from = here.fit.parted.from };
        nearly = (omega (arith, g.0, g.1, here.fit.balanced.0, here.fit.balanced.1), omega (arith, g.0, g.1, here.fit.balanced.0, here.fit.balanced.1));
        fits = omega (arith, m, p.1, long, few);
        grown = (omega (arith, g.0, here.forks), omega (arith, g.1, here.forks));
      })

  pub put_right : (l r : List (Key × T) × ℕ) (o : Ordering) → key_cmp k f.key ≡ o → (o ≡ Equal) ⊎ (o ≡ Greater) → l ≡ f.left → r.0 ≡ with_item k v f.right.0 → MayGrow f.right.1 r.1 → IsPut d k v f.key l r
  put_right l r o h j c a g =
      let p = length_put key_cmp f.right.0 k v in
      let m : length r.0 ≡ length (with_item k v f.right.0) = ap length a in
      rw c (record {
        is = rw a (sym (ap (with_item k v) here.pairs ∙ put_back key_cmp f.left.0 f.right.0 k v (before_from key_cmp keys_total k f.key f.left.0 o h j here.fit.parted.before)));
        parted = record { before = here.fit.parted.before; from = rw a (from_put key_cmp keys_total f.key f.right.0 k v o h j here.fit.parted.from) };
        nearly = (omega (arith, g.0, g.1, here.fit.balanced.0, here.fit.balanced.1), omega (arith, g.0, g.1, here.fit.balanced.0, here.fit.balanced.1));
        fits = omega (arith, m, p.1, long, few);
        grown = (omega (arith, g.0, here.forks), omega (arith, g.1, here.forks));
      })

  -- where a side may have a fork more
  pub grown_left : (l : List (Key × T) × ℕ) → MayGrow f.left.1 l.1 → nat_le (f.left.1 + 2) (3 * (f.right.1 + 1)) ≡ true → Balanced l.1 f.right.1
  grown_left l g may =
      let room = leb-true (f.left.1 + 2) (3 * (f.right.1 + 1)) may in
      (omega (arith, g.0, here.fit.balanced.0), omega (arith, g.1, room))

  pub grown_right : (r : List (Key × T) × ℕ) → MayGrow f.right.1 r.1 → nat_le (f.right.1 + 2) (3 * (f.left.1 + 1)) ≡ true → Balanced f.left.1 r.1
  grown_right r g may =
      let room = leb-true (f.right.1 + 2) (3 * (f.left.1 + 1)) may in
      (omega (arith, g.1, room), omega (arith, g.0, here.fit.balanced.1))

-- the item of a key
module _ {T : Type 0} {d : List (Key × T) × ℕ} {f : Fork T} (here : AtFork d f) (k : Key) where
  pub found_left : key_cmp k f.key ≡ Less → item_at k f.left.0 ≡ item_at k d.0
  found_left h = sym (ap (item_at k) here.pairs ∙ find_front key_cmp f.left.0 f.right.0 k (after_from key_cmp keys_total k f.key f.right.0 h here.fit.parted.from))

  pub found_right : (o : Ordering) → key_cmp k f.key ≡ o → (o ≡ Equal) ⊎ (o ≡ Greater) → item_at k f.right.0 ≡ item_at k d.0
  found_right o h j = sym (ap (item_at k) here.pairs ∙ find_back key_cmp f.left.0 f.right.0 k (before_from key_cmp keys_total k f.key f.left.0 o h j here.fit.parted.before))
