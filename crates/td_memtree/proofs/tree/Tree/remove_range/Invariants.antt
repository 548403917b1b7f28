use Rattle.std.proofs.Common.{length}
use Rattle.td_layer.specs.Keys.{key_cmp}
use Rattle.td_memtree.proofs.Taking.{Taking}
use Rattle.td_memtree.proofs.tree.Tree.remove_range.Given as goal

abbrev pub invariant-loop-key : goal.invariant-loop-key
invariant-loop-key g l = Taking key_cmp l.fn.lo l.hi l.self l.left l.rest

abbrev pub decreases-loop-key : goal.decreases-loop-key
decreases-loop-key g l = length l.rest
