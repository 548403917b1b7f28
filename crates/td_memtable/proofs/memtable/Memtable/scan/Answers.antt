use Rattle.td_memtable.specs.Contents.{key_at}
use Rattle.td_memtable.proofs.Scans.{scan_begins}
use Rattle.td_memtable.proofs.memtable.Memtable.scan.Goals as goal

pub invariant_of-result : goal.invariant_of-result
invariant_of-result c = (scan_begins _ _ _ _ (key_at c.args.table c.args.lo) (key_at c.args.table c.args.hi) c.self.invariant.cells c.range-rest.ensures.pairs c.range-rest.ensures.in_order c.next-ahead.ensures.steps, tt)
