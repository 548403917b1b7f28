use Rattle.td_memtree.proofs.Leaves.{taken_at, taken_none}
use Rattle.td_memtree.proofs.leaf.pairs_without.Goals as goal

pub returns-in-Ok : goal.returns-in-Ok
returns-in-Ok g c =
    rw (c.remove-taken.ensures.items, c.in_ok-made.ensures) (taken_at c.args.pairs.now c.args.key c.in-Ok.at (rw c.in-Ok.is at c.place_of.ensures.there) (rw c.in-Ok.is at c.place_of.ensures.found))

pub returns-in-Err : goal.returns-in-Err
returns-in-Err g c =
    rw c.in_ok-made.ensures (taken_none c.args.pairs.now c.args.key c.requires (rw c.in-Err.is at c.place_of.ensures.missing))
