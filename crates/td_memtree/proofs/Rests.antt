-- The pairs of a fork from a key on, by where the key stands to the fork's.
use Rattle.std.proofs.Common.{◌≡◌, ◌⊎◌, ℕ, List, ◌++◌, ap, ◌∙◌}
use Rattle.std.specs.declared.cmp.Ordering.{Ordering}
use Rattle.std.specs.declared.cmp.Ordering.TheVariants.{Less, Equal, Greater}
use Rattle.td_layer.specs.declared.values.Key.{Key}
use Rattle.td_layer.specs.Keys.{key_cmp}
use Rattle.td_memtree.specs.declared.branch.Fork.{Fork}
use Rattle.td_memtree.specs.Keys.{pairs_from}
use Rattle.td_memtree.proofs.Keyed.{keys_total}
use Rattle.td_memtree.proofs.Around.{after_from, before_from}
use Rattle.td_memtree.proofs.Froms.{from_left, from_right}
use Rattle.td_memtree.proofs.AtFork.{AtFork}

module _ {T : Type 0} {d : List (Key × T) × ℕ} {f : Fork T} (here : AtFork d f) (k : Key) where
  pub rest_less : key_cmp k f.key ≡ Less → pairs_from k d.0 ≡ pairs_from k f.left.0 ++ f.right.0
  rest_less h = ap (pairs_from k) here.pairs ∙ from_left key_cmp f.left.0 f.right.0 k (after_from key_cmp keys_total k f.key f.right.0 h here.fit.parted.from)

  pub rest_more : (o : Ordering) → key_cmp k f.key ≡ o → (o ≡ Equal) ⊎ (o ≡ Greater) → pairs_from k d.0 ≡ pairs_from k f.right.0
  rest_more o h j = ap (pairs_from k) here.pairs ∙ from_right key_cmp f.left.0 f.right.0 k (before_from key_cmp keys_total k f.key f.left.0 o h j here.fit.parted.before)
