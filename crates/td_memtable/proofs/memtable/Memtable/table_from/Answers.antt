use Rattle.td_memtable.proofs.Firsts.{first_of_both}
use Rattle.td_memtable.proofs.memtable.Memtable.table_from.Goals as goal

pub returns : goal.returns
returns c =
    first_of_both c.args.from _ c.args.self.now c.first_from-put.result c.first_from-cut.result c.earlier.result c.self.view_is c.first_from-put.ensures c.first_from-cut.ensures c.earlier.ensures
