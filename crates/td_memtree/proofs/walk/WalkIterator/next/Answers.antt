use Rattle.std.proofs.Common.{lit<}
use Rattle.td_memtree.specs.Pending.{left_pairs}
use Rattle.td_memtree.proofs.Pend.{popped, never_none, walked, progress}
use Rattle.td_memtree.proofs.walk.WalkIterator.next.Goals as goal

pub unreachable-requires : goal.unreachable-requires
unreachable-requires g c = never_none _ _ c.self.invariant (rw (c.in-Some-None.is, c.in-Some-None.field-0-is) at c.pop.ensures.items)

pub descend-leaf-requires : goal.descend-leaf-requires
descend-leaf-requires g c =
    let p = popped {b = c.in-Some-Some.branch} c.self.invariant (rw (c.in-Some-Some.is, c.in-Some-Some.field-0-is) at c.pop.ensures.items) in
    (lit< tt, (p.pending, p.light))

pub returns-in-Some-split_first-clause-steps : goal.returns-in-Some-split_first-clause-steps
returns-in-Some-split_first-clause-steps g c =
    let p = popped {b = c.in-Some-Some.branch} c.self.invariant (rw (c.in-Some-Some.is, c.in-Some-Some.field-0-is) at c.pop.ensures.items) in
    walked _ _ _ (left_pairs c.pop.new.self.items) c.in-Some-Some.branch.now.0 _ _ _ _ _ _ c.self.view_is c.in_default.ensures.cases p.pairs c.descend-leaf.ensures.pairs c.in-Some-split_first.ensures.cases.0 c.lent-in-Some-Some.ensures.key c.lent-in-Some-Some.ensures.item

pub returns-in-Some-split_first-clause-goes : goal.returns-in-Some-split_first-clause-goes
returns-in-Some-split_first-clause-goes g c =
    let p = popped {b = c.in-Some-Some.branch} c.self.invariant (rw (c.in-Some-Some.is, c.in-Some-Some.field-0-is) at c.pop.ensures.items) in
    progress _ _ _ _ (walked _ _ _ (left_pairs c.pop.new.self.items) c.in-Some-Some.branch.now.0 _ _ _ _ _ _ c.self.view_is c.in_default.ensures.cases p.pairs c.descend-leaf.ensures.pairs c.in-Some-split_first.ensures.cases.0 c.lent-in-Some-Some.ensures.key c.lent-in-Some-Some.ensures.item)
