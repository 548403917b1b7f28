use Rattle.std.proofs.Common.{ap}
use Rattle.td_memtable.proofs.Scans.{cut_found, cut_elsewhere}
use Rattle.td_memtable.proofs.scan.MemScanRowScan.cut_at.Goals as goal

pub returns-then-key-self : goal.returns-then-key-self
returns-then-key-self c =
    cut_found c.args.key c.self.inside.table c.self.inside.memtable.now.cuts c.args.self.now.cuts c.in-Some.ranges c.as_slice.result.now c.lies_in_any.result (ap (λ s. s.cuts) c.self.view_is) (rw c.in-Some.is at c.self.invariant.1) c.as_slice.ensures c.lies_in_any.ensures c.if-key-self.true

pub returns-else-key-self : goal.returns-else-key-self
returns-else-key-self c = cut_elsewhere c.args.key c.self.inside.table c.self.inside.memtable.now.cuts c.args.self.now.cuts (ap (λ s. s.cuts) c.self.view_is) c.if-key-self.false
