use Rattle.std.proofs.Common.{arith}
use Rattle.td_layer.specs.Keys.{key_cmp}
use Rattle.td_memtree.proofs.Keyed.{keys_total}
use Rattle.td_memtree.proofs.Around.{rises_put, some_put, length_put}
use Rattle.td_memtree.proofs.branch.Branch.leaf_with.Goals as goal

pub leaf-requires-clause-sorted : goal.leaf-requires-clause-sorted
leaf-requires-clause-sorted g c = rw (c.in_ok-put_here.ensures.ok, c.in_ok-made.ensures) (rises_put key_cmp keys_total c.args.pairs.now c.args.key c.args.item.value c.requires.sorted)

pub leaf-requires-clause-some : goal.leaf-requires-clause-some
leaf-requires-clause-some g c = rw (c.in_ok-put_here.ensures.ok, c.in_ok-made.ensures) (some_put key_cmp c.args.pairs.now c.args.key c.args.item.value)

pub two_leaves-requires-clause-sorted : goal.two_leaves-requires-clause-sorted
two_leaves-requires-clause-sorted g c = rw (c.as_slice-2.ensures.value, c.in_ok-put_here.ensures.ok, c.in_ok-made.ensures) (rises_put key_cmp keys_total c.args.pairs.now c.args.key c.args.item.value c.requires.sorted)

pub two_leaves-requires-clause-few : goal.two_leaves-requires-clause-few
two_leaves-requires-clause-few g c = rw (c.as_slice-2.ensures.value, c.in_ok-put_here.ensures.ok, c.in_ok-made.ensures) (omega (arith, (length_put key_cmp c.args.pairs.now c.args.key c.args.item.value).1, c.requires.few))
