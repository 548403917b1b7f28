use Rattle.td_memtree.proofs.AtFork.{at_fork}
use Rattle.td_memtree.proofs.Leant.{left_first, left_done}
use Rattle.td_memtree.proofs.turn.lower.Goals as goal

pub recount-requires-clause-parted : goal.recount-requires-clause-parted
recount-requires-clause-parted g c =
    let here = at_fork c.right.view_is c.right.invariant c.in-OfFork.is c.in-Some.ensures.value in
    rw (c.swap.ensures.y_after, c.swap-then-may_turn.ensures.y_after, c.swap-then-may_turn-2.ensures.y_after, c.swap-then-may_turn.ensures.x_after) (left_first here c.args.left.now.0 c.args.key.now c.requires.parted)

pub returns-then-may_turn-clause-parted : goal.returns-then-may_turn-clause-parted
returns-then-may_turn-clause-parted g c =
    let here = at_fork c.right.view_is c.right.invariant c.in-OfFork.is c.in-Some.ensures.value in
    λ _. rw (c.swap.ensures.x_after, c.recount.ensures.left, c.recount.ensures.right, c.swap-then-may_turn.ensures.y_after, c.swap-then-may_turn-2.ensures.y_after, c.swap-then-may_turn.ensures.x_after, c.swap-then-may_turn-2.ensures.x_after) (left_done here c.args.left.now.0 c.args.key.now c.requires.parted)
