use Rattle.std.proofs.Common.{Some, sym, ap, ◌∙◌}
use Rattle.td_memtree.specs.Keys.{item_at}
use Rattle.td_memtree.proofs.AtFork.{at_fork, at_leaf}
use Rattle.td_memtree.proofs.Leaves.{found_at, found_none}
use Rattle.td_memtree.proofs.Puts.{found_left, found_right}
use Rattle.td_memtree.proofs.branch.Branch.+get.Goals as goal

pub returns-in-Less : goal.returns-in-Less
returns-in-Less g t c =
    let here = at_fork c.self.view_is c.self.invariant c.in-OfFork.is c.deref-fork.ensures in
    c.get.ensures ∙ found_left here c.args.key (sym c.cmp.ensures ∙ c.in-Less.is)

pub returns-in-Equal : goal.returns-in-Equal
returns-in-Equal g t c =
    let here = at_fork c.self.view_is c.self.invariant c.in-OfFork.is c.deref-fork.ensures in
    c.get-in-Equal.ensures ∙ found_right here c.args.key _ (sym c.cmp.ensures) c.in-Equal.is

pub returns-in-Err : goal.returns-in-Err
returns-in-Err g t c =
    let here = at_leaf c.self.view_is c.self.invariant c.in-OfLeaf.is c.deref-leaf.ensures in
    found_none _ c.args.key here.fit.rises (rw (c.in-Err.is, c.as_slice.ensures.value) at c.place_of.ensures.missing) ∙ ap (item_at c.args.key) (sym here.pairs)

pub returns-in-Ok : goal.returns-in-Ok
returns-in-Ok g t c =
    let here = at_leaf c.self.view_is c.self.invariant c.in-OfLeaf.is c.deref-leaf.ensures in
    ap Some (c.deref.ensures ∙ ap (λ p. p.1) c.pair.view_is) ∙ found_at _ c.args.key c.in-Ok.at (rw (c.in-Ok.is, c.as_slice.ensures.value) at c.place_of.ensures.there) _ (rw (c.in-Ok.is, c.as_slice.ensures.value) at c.place_of.ensures.found) c.index-pair.ensures ∙ ap (item_at c.args.key) (sym here.pairs)
