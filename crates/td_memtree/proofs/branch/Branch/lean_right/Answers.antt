use Rattle.td_memtree.proofs.AtFork.{at_fork}
use Rattle.td_memtree.proofs.Leant.{right_last, right_done, right_fits, right_inner_first, right_inner_last, right_inner_done}
use Rattle.td_memtree.proofs.branch.Branch.lean_right.Goals as goal

pub fork-requires-clause-parted : goal.fork-requires-clause-parted
fork-requires-clause-parted g c =
    let here = at_fork c.left.view_is c.left.invariant c.in-OfFork.is c.deref-outer.ensures in
    rw c.in_ok-share.ensures (right_last here c.args.right.0 c.args.key c.requires.parted)

pub fork-requires-clause-fits : goal.fork-requires-clause-fits
fork-requires-clause-fits g c =
    let here = at_fork c.left.view_is c.left.invariant c.in-OfFork.is c.deref-outer.ensures in
    rw c.in_ok-share.ensures (right_fits here c.args.right.0 c.args.key c.requires.parted c.requires.fits)

pub fork-requires-then-forks-clause-parted : goal.fork-requires-then-forks-clause-parted
fork-requires-then-forks-clause-parted g c =
    let here = at_fork c.left.view_is c.left.invariant c.in-OfFork.is c.deref-outer.ensures in
    rw (c.in_ok-first.ensures, c.in_ok-last.ensures, c.in_ok-share.ensures) (right_done here c.args.right.0 c.args.key c.requires.parted)

pub fork-requires-2-clause-parted : goal.fork-requires-2-clause-parted
fork-requires-2-clause-parted g c =
    let here = at_fork c.left.view_is c.left.invariant c.in-OfFork.is c.deref-outer.ensures in
    let below = at_fork c.middle.view_is c.middle.invariant c.in-OfFork-shape.is c.deref-inner.ensures in
    rw c.in_ok-share-2.ensures (right_inner_last here c.args.right.0 c.args.key c.requires.parted below)

pub fork-requires-3-clause-parted : goal.fork-requires-3-clause-parted
fork-requires-3-clause-parted g c =
    let here = at_fork c.left.view_is c.left.invariant c.in-OfFork.is c.deref-outer.ensures in
    let below = at_fork c.middle.view_is c.middle.invariant c.in-OfFork-shape.is c.deref-inner.ensures in
    rw (c.first.view_is, c.in_ok-first.ensures, c.in_ok-share-3.ensures) (right_inner_first here c.args.right.0 c.args.key c.requires.parted below)

pub fork-requires-4-clause-parted : goal.fork-requires-4-clause-parted
fork-requires-4-clause-parted g c =
    let here = at_fork c.left.view_is c.left.invariant c.in-OfFork.is c.deref-outer.ensures in
    let below = at_fork c.middle.view_is c.middle.invariant c.in-OfFork-shape.is c.deref-inner.ensures in
    rw (c.in_ok-first-2.ensures, c.first.view_is, c.in_ok-first.ensures, c.in_ok-share-3.ensures, c.in_ok-last-2.ensures, c.in_ok-share-2.ensures) (right_inner_done here c.args.right.0 c.args.key c.requires.parted below)
