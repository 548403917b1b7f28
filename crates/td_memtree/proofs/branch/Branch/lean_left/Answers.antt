use Rattle.td_memtree.proofs.AtFork.{at_fork}
use Rattle.td_memtree.proofs.Leant.{left_first, left_done, left_fits, left_inner_first, left_inner_last, left_inner_done}
use Rattle.td_memtree.proofs.branch.Branch.lean_left.Goals as goal

pub fork-requires-clause-parted : goal.fork-requires-clause-parted
fork-requires-clause-parted g c =
    let here = at_fork c.right.view_is c.right.invariant c.in-OfFork.is c.deref-outer.ensures in
    rw (c.left.view_is, c.in_ok-share.ensures) (left_first here c.args.left.0 c.args.key c.requires.parted)

pub fork-requires-clause-fits : goal.fork-requires-clause-fits
fork-requires-clause-fits g c =
    let here = at_fork c.right.view_is c.right.invariant c.in-OfFork.is c.deref-outer.ensures in
    rw (c.left.view_is, c.in_ok-share.ensures) (left_fits here c.args.left.0 c.args.key c.requires.parted c.requires.fits)

pub fork-requires-then-forks-clause-parted : goal.fork-requires-then-forks-clause-parted
fork-requires-then-forks-clause-parted g c =
    let here = at_fork c.right.view_is c.right.invariant c.in-OfFork.is c.deref-outer.ensures in
    rw (c.in_ok-first.ensures, c.left.view_is, c.in_ok-share.ensures, c.in_ok-last.ensures) (left_done here c.args.left.0 c.args.key c.requires.parted)

pub fork-requires-2-clause-parted : goal.fork-requires-2-clause-parted
fork-requires-2-clause-parted g c =
    let here = at_fork c.right.view_is c.right.invariant c.in-OfFork.is c.deref-outer.ensures in
    let below = at_fork c.middle.view_is c.middle.invariant c.in-OfFork-shape.is c.deref-inner.ensures in
    rw (c.left.view_is, c.in_ok-share-2.ensures) (left_inner_first here c.args.left.0 c.args.key c.requires.parted below)

pub fork-requires-3-clause-parted : goal.fork-requires-3-clause-parted
fork-requires-3-clause-parted g c =
    let here = at_fork c.right.view_is c.right.invariant c.in-OfFork.is c.deref-outer.ensures in
    let below = at_fork c.middle.view_is c.middle.invariant c.in-OfFork-shape.is c.deref-inner.ensures in
    rw (c.in_ok-share-3.ensures, c.in_ok-last.ensures) (left_inner_last here c.args.left.0 c.args.key c.requires.parted below)

pub fork-requires-4-clause-parted : goal.fork-requires-4-clause-parted
fork-requires-4-clause-parted g c =
    let here = at_fork c.right.view_is c.right.invariant c.in-OfFork.is c.deref-outer.ensures in
    let below = at_fork c.middle.view_is c.middle.invariant c.in-OfFork-shape.is c.deref-inner.ensures in
    rw (c.in_ok-first-2.ensures, c.left.view_is, c.in_ok-share-2.ensures, c.in_ok-last-2.ensures, c.in_ok-share-3.ensures, c.in_ok-last.ensures) (left_inner_done here c.args.left.0 c.args.key c.requires.parted below)
