use Rattle.td_memtree.proofs.UpTo.{pairs_to-from, order_from, order_to}
use Rattle.td_memtree.proofs.tree.Tree.range.Goals as goal

pub invariant_of-result : goal.invariant_of-result
invariant_of-result g c = rw c.walk-walk.ensures.pairs (order_from c.args.lo _ c.walk-walk.ensures.in_order)

pub returns-clause-pairs : goal.returns-clause-pairs
returns-clause-pairs g c = rw c.walk-walk.ensures.pairs (pairs_to-from c.args.lo c.args.hi _)

pub returns-clause-in_order : goal.returns-clause-in_order
returns-clause-in_order g c = rw c.walk-walk.ensures.pairs (order_to c.args.hi _ (order_from c.args.lo _ c.walk-walk.ensures.in_order))
