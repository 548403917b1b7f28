use Rattle.td_memtree.proofs.AtFork.{at_fork}
use Rattle.td_memtree.proofs.Forked.{turned}
use Rattle.td_memtree.proofs.branch.Branch.turn_left.Goals as goal

pub invariant_of-self-then-lower : goal.invariant_of-self-then-lower
invariant_of-self-then-lower g c =
    let here = at_fork c.self.view_is c.self.invariant c.in-OfFork.is c.in-Some.ensures.value in
    turned here c.lower.new.key c.lower.new.left c.lower.new.right c.swap.new.x c.swap.new.y c.swap.ensures.x_after c.swap.ensures.y_after c.forks-left.ensures.sound c.forks-right.ensures.sound (c.lower.ensures.pairs c.if-lower.true) (c.lower.ensures.forks c.if-lower.true) (c.lower.ensures.parted c.if-lower.true) (c.lower.ensures.balanced c.if-lower.true)
