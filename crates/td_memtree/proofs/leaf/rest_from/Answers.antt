use Rattle.std.proofs.Common.{◌∙◌}
use Rattle.td_memtree.proofs.Leaves.{from_at}
use Rattle.td_memtree.proofs.leaf.rest_from.Goals as goal

pub returns-in-Ok : goal.returns-in-Ok
returns-in-Ok g c = c.split_at.ensures.back ∙ from_at c.args.pairs.now c.args.from c.in-Ok.at (rw c.in-Ok.is at c.place_of.ensures.there) c.requires

pub returns-in-Err : goal.returns-in-Err
returns-in-Err g c = c.split_at-in-Err.ensures.back ∙ from_at c.args.pairs.now c.args.from c.in-Err.at (rw c.in-Err.is at c.place_of.ensures.absent) c.requires
