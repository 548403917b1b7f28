use Rattle.std.proofs.Common.{refl, lit<, rules}
use Rattle.td_memtree.proofs.AtFork.{at_fork}
use Rattle.td_memtree.proofs.Pend.{has_room, pushed, seamed}
use Rattle.td_memtree.proofs.walk.+descend.Goals as goal

pub push-requires : goal.push-requires
push-requires g t c =
    let here = at_fork c.branch.view_is c.branch.invariant c.in-OfFork.is c.deref-fork.ensures in
    (lit< tt, has_room here _ c.requires.light)

pub descend-requires : goal.descend-requires
descend-requires g t c =
    let here = at_fork c.branch.view_is c.branch.invariant c.in-OfFork.is c.deref-fork.ensures in
    let p = pushed here c.requires.pending c.requires.light c.push.ensures.items refl in
    let pending = p.pending in
    let light = p.light in
    search (rules, pending, light)

pub returns-in-OfFork-clause-pairs : goal.returns-in-OfFork-clause-pairs
returns-in-OfFork-clause-pairs g t c =
    let here = at_fork c.branch.view_is c.branch.invariant c.in-OfFork.is c.deref-fork.ensures in
    let p = pushed here c.requires.pending c.requires.light c.push.ensures.items refl in
    seamed _ _ _ _ _ _ here.pairs p.pairs c.descend.ensures.pairs
