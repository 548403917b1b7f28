use Rattle.td_tagidx.proofs.Filed.{others_filed}
use Rattle.td_tagidx.proofs.index.TagIndex.file.Goals as goal

pub put_all-requires : goal.put_all-requires
put_all-requires c = others_filed c.in-Some.last.table c.self.inside.subtables.items c.self.inside.slots.keys c.self.invariant.filed (c.self.invariant.apart c.in-Some.last c.in-Some.is)
