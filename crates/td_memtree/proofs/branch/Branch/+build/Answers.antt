use Rattle.std.proofs.Common.{rules, arith}
use Rattle.td_memtree.proofs.Built.{last_sorted, rest_sorted, rest_long, built_parts}
use Rattle.td_memtree.proofs.branch.Branch.+build.Goals as goal

pub leaf-requires-clause-sorted : goal.leaf-requires-clause-sorted
leaf-requires-clause-sorted g t c = last_sorted c.args.pairs.now c.last_pairs.new.pairs _ c.requires.sorted c.in_ok-pairs.ensures.pairs

pub build-requires-2 : goal.build-requires-2
build-requires-2 g t c =
    let sorted = rest_sorted c.args.pairs.now c.build.new.pairs c.in_ok-right.right.0 c.requires.sorted c.in_ok-right.ensures.pairs in
    let long = rest_long c.args.pairs.now c.build.new.pairs c.in_ok-right.right.0 c.requires.sorted c.in_ok-right.ensures.pairs in
    search (rules, sorted, long)

pub fork-requires-clause-parted : goal.fork-requires-clause-parted
fork-requires-clause-parted g t c =
    built_parts c.args.pairs.now c.build.new.pairs c.in_ok-right.right.0 c.requires.sorted c.in_ok-right.ensures.pairs c.build-2.new.pairs c.in_ok-left.left.0 c.in_ok-left.ensures.pairs c.first_key-key.result (omega (arith, c.forks-forks.ensures.sound.full)) c.first_key-key.ensures
