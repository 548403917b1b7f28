use Rattle.std.proofs.Common.{arith}
use Rattle.td_memtree.proofs.Built.{sorted_take, sorted_drop, halves}
use Rattle.td_memtree.proofs.Leaves.{first_at}
use Rattle.td_memtree.proofs.branch.Branch.two_leaves.Goals as goal

pub leaf-requires-clause-sorted : goal.leaf-requires-clause-sorted
leaf-requires-clause-sorted g c = rw c.in_ok-copied.ensures (sorted_take c.args.pairs.now _ _ c.split_at.ensures.front c.requires.sorted)

pub leaf-requires-2-clause-sorted : goal.leaf-requires-2-clause-sorted
leaf-requires-2-clause-sorted g c = rw c.in_ok-copied-2.ensures (sorted_drop c.args.pairs.now _ _ c.split_at.ensures.back c.requires.sorted)

pub fork-requires-clause-parted : goal.fork-requires-clause-parted
fork-requires-clause-parted g c =
    rw (c.in_ok-left.ensures, c.in_ok-copied.ensures, c.in_ok-right.ensures, c.in_ok-copied-2.ensures, c.key-key.ensures) (halves c.args.pairs.now _ _ _ _ c.split_at.ensures.front c.split_at.ensures.back (omega (arith, c.split_at.ensures.back_len, c.cut_at-half.ensures.second)) c.requires.sorted (first_at _ _ c.index-back-0.is))
