use Rattle.std.proofs.Common.{length}
use Rattle.td_wal.proofs.LogLaws.{ReadSoFar}
use Rattle.td_wal.proofs.reading.items_of.Given as goal

abbrev pub invariant-loop-gate : goal.invariant-loop-gate
invariant-loop-gate l = ReadSoFar l.fn.first l.bytes l.items l.rest l.version l.least

abbrev pub decreases-loop-gate : goal.decreases-loop-gate
decreases-loop-gate l = length l.rest
