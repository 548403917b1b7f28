use Rattle.std.proofs.Common.{Some, sym, ◌∙◌, subst, arith}
use Rattle.td_layer.specs.Keys.{key_cmp}
use Rattle.td_memtree.specs.Branches.{IsTaken}
use Rattle.td_memtree.proofs.AtFork.{at_fork, at_leaf}
use Rattle.td_memtree.proofs.Taken.{rises_take, length_take}
use Rattle.td_memtree.proofs.Takes.{take_left, take_right, gone_left, gone_right}
use Rattle.td_memtree.proofs.branch.Branch.+take.Goals as goal

pub balance-requires-clause-parted : goal.balance-requires-clause-parted
balance-requires-clause-parted g t c =
    let here = at_fork c.self.view_is c.self.invariant c.in-OfFork.is c.deref-fork.ensures in
    let gone : IsTaken c.args.key c.deref-fork.result.now.left (Some c.in-Some.left) = subst (IsTaken c.args.key c.deref-fork.result.now.left) c.in-Some.is c.in_ok-left-in-Less.ensures in
    let take = take_left here c.args.key c.requires _ _ (sym c.cmp.ensures ∙ c.in-Less.is) gone c.in_ok-right-in-Less.ensures in
    take.parted

pub balance-requires-in-Equal-clause-parted : goal.balance-requires-in-Equal-clause-parted
balance-requires-in-Equal-clause-parted g t c =
    let here = at_fork c.self.view_is c.self.invariant c.in-OfFork.is c.deref-fork.ensures in
    let gone : IsTaken c.args.key c.deref-fork.result.now.right (Some c.in-Some-2.right) = subst (IsTaken c.args.key c.deref-fork.result.now.right) c.in-Some-2.is c.in_ok-right-in-Equal.ensures in
    let take = take_right here c.args.key c.requires _ _ _ (sym c.cmp.ensures) c.in-Equal.is c.in_ok-left-in-Equal.ensures gone in
    take.parted

pub balance-requires-clause-nearly : goal.balance-requires-clause-nearly
balance-requires-clause-nearly g t c =
    let here = at_fork c.self.view_is c.self.invariant c.in-OfFork.is c.deref-fork.ensures in
    let gone : IsTaken c.args.key c.deref-fork.result.now.left (Some c.in-Some.left) = subst (IsTaken c.args.key c.deref-fork.result.now.left) c.in-Some.is c.in_ok-left-in-Less.ensures in
    let take = take_left here c.args.key c.requires _ _ (sym c.cmp.ensures ∙ c.in-Less.is) gone c.in_ok-right-in-Less.ensures in
    take.nearly

pub balance-requires-in-Equal-clause-nearly : goal.balance-requires-in-Equal-clause-nearly
balance-requires-in-Equal-clause-nearly g t c =
    let here = at_fork c.self.view_is c.self.invariant c.in-OfFork.is c.deref-fork.ensures in
    let gone : IsTaken c.args.key c.deref-fork.result.now.right (Some c.in-Some-2.right) = subst (IsTaken c.args.key c.deref-fork.result.now.right) c.in-Some-2.is c.in_ok-right-in-Equal.ensures in
    let take = take_right here c.args.key c.requires _ _ _ (sym c.cmp.ensures) c.in-Equal.is c.in_ok-left-in-Equal.ensures gone in
    take.nearly

pub balance-requires-clause-fits : goal.balance-requires-clause-fits
balance-requires-clause-fits g t c =
    let here = at_fork c.self.view_is c.self.invariant c.in-OfFork.is c.deref-fork.ensures in
    let gone : IsTaken c.args.key c.deref-fork.result.now.left (Some c.in-Some.left) = subst (IsTaken c.args.key c.deref-fork.result.now.left) c.in-Some.is c.in_ok-left-in-Less.ensures in
    let take = take_left here c.args.key c.requires _ _ (sym c.cmp.ensures ∙ c.in-Less.is) gone c.in_ok-right-in-Less.ensures in
    take.fits

pub balance-requires-in-Equal-clause-fits : goal.balance-requires-in-Equal-clause-fits
balance-requires-in-Equal-clause-fits g t c =
    let here = at_fork c.self.view_is c.self.invariant c.in-OfFork.is c.deref-fork.ensures in
    let gone : IsTaken c.args.key c.deref-fork.result.now.right (Some c.in-Some-2.right) = subst (IsTaken c.args.key c.deref-fork.result.now.right) c.in-Some-2.is c.in_ok-right-in-Equal.ensures in
    let take = take_right here c.args.key c.requires _ _ _ (sym c.cmp.ensures) c.in-Equal.is c.in_ok-left-in-Equal.ensures gone in
    take.fits

pub returns-in_ok-done-in-Less : goal.returns-in_ok-done-in-Less
returns-in_ok-done-in-Less g t c =
    let here = at_fork c.self.view_is c.self.invariant c.in-OfFork.is c.deref-fork.ensures in
    let gone : IsTaken c.args.key c.deref-fork.result.now.left (Some c.in-Some.left) = subst (IsTaken c.args.key c.deref-fork.result.now.left) c.in-Some.is c.in_ok-left-in-Less.ensures in
    let take = take_left here c.args.key c.requires _ _ (sym c.cmp.ensures ∙ c.in-Less.is) gone c.in_ok-right-in-Less.ensures in
    rw c.in_ok-done-in-Less.ensures take.is

pub returns-in_ok-done-in-Equal : goal.returns-in_ok-done-in-Equal
returns-in_ok-done-in-Equal g t c =
    let here = at_fork c.self.view_is c.self.invariant c.in-OfFork.is c.deref-fork.ensures in
    let gone : IsTaken c.args.key c.deref-fork.result.now.right (Some c.in-Some-2.right) = subst (IsTaken c.args.key c.deref-fork.result.now.right) c.in-Some-2.is c.in_ok-right-in-Equal.ensures in
    let take = take_right here c.args.key c.requires _ _ _ (sym c.cmp.ensures) c.in-Equal.is c.in_ok-left-in-Equal.ensures gone in
    rw c.in_ok-done-in-Equal.ensures take.is

pub leaf-requires-clause-sorted : goal.leaf-requires-clause-sorted
leaf-requires-clause-sorted g t c =
    let here = at_leaf c.self.view_is c.self.invariant c.in-OfLeaf.is c.deref-leaf.ensures in
    rw (c.in_ok-pairs-in-OfLeaf.ensures, c.as_slice.ensures.value) (rises_take key_cmp _ c.args.key here.fit.rises)

pub leaf-requires-clause-few : goal.leaf-requires-clause-few
leaf-requires-clause-few g t c =
    let here = at_leaf c.self.view_is c.self.invariant c.in-OfLeaf.is c.deref-leaf.ensures in
    rw (c.in_ok-pairs-in-OfLeaf.ensures, c.as_slice.ensures.value) (omega (arith, (length_take key_cmp c.deref-leaf.result.now.pairs.items c.args.key).0, here.fit.few))

pub returns-in_default : goal.returns-in_default
returns-in_default g t c =
    let here = at_fork c.self.view_is c.self.invariant c.in-OfFork.is c.deref-fork.ensures in
    gone_left here c.args.key c.requires _ (sym c.cmp.ensures ∙ c.in-Less.is) (subst (IsTaken c.args.key c.deref-fork.result.now.left) c.in_default.is c.in_ok-left-in-Less.ensures) c.in_ok-right-in-Less.ensures

pub returns-in_default-2 : goal.returns-in_default-2
returns-in_default-2 g t c =
    let here = at_fork c.self.view_is c.self.invariant c.in-OfFork.is c.deref-fork.ensures in
    gone_right here c.args.key c.requires _ _ (sym c.cmp.ensures) c.in-Equal.is c.in_ok-left-in-Equal.ensures (subst (IsTaken c.args.key c.deref-fork.result.now.right) c.in_default-2.is c.in_ok-right-in-Equal.ensures)
