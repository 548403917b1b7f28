use Rattle.td_memtree.proofs.Leaves.{put_new_at, put_over_at}
use Rattle.td_memtree.proofs.leaf.put_here.Goals as goal

pub returns-in-Ok-clause-ok : goal.returns-in-Ok-clause-ok
returns-in-Ok-clause-ok g c =
    rw c.key-key.ensures (put_over_at c.args.pairs.now.items c.args.key c.in-Ok.at (rw (c.in-Ok.is, c.as_slice.ensures.value) at c.place_of.ensures.there) c.args.item.value _ (rw (c.in-Ok.is, c.as_slice.ensures.value) at c.place_of.ensures.found) c.index.ensures)

pub returns-in_ok-insert-in-Err-clause-ok : goal.returns-in_ok-insert-in-Err-clause-ok
returns-in_ok-insert-in-Err-clause-ok g c =
    rw c.in_ok-insert-in-Err.ensures.items (put_new_at c.args.pairs.now.items c.args.key c.in-Err.at (rw (c.in-Err.is, c.as_slice.ensures.value) at c.place_of.ensures.absent) c.args.item.value (rw (c.in-Err.is, c.as_slice.ensures.value) at c.place_of.ensures.missing))
