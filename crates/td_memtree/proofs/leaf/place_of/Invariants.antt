use Rattle.std.proofs.Common.{◌≡◌, ◌+◌, length}
use Rattle.td_layer.specs.Keys.{key_cmp}
use Rattle.td_memtree.specs.Places.{place, is_there}
use Rattle.td_memtree.proofs.leaf.place_of.Given as goal

-- the pairs that were passed stand before the key
abbrev pub invariant-loop-pair : goal.invariant-loop-pair
invariant-loop-pair g l = (place key_cmp l.key l.pairs + length l.left ≡ length l.pairs + place key_cmp l.key l.left) × (is_there key_cmp l.key l.left ≡ is_there key_cmp l.key l.pairs)

abbrev pub decreases-loop-pair : goal.decreases-loop-pair
decreases-loop-pair g l = length l.left
