use Rattle.std.proofs.Common.{length}
use Rattle.td_memtable.specs.Contents.{ranges_of}
use Rattle.td_memtable.proofs.Joining.{Joins}
use Rattle.td_memtable.proofs.Rising.{ranges_at}
use Rattle.td_memtable.proofs.memtable.Memtable.cuts.Given as goal

-- what was joined, the range at hand and the cuts that are left make the whole
abbrev pub invariant-loop-from : goal.invariant-loop-from
invariant-loop-from l = Joins l.joined l.lo l.hi (ranges_at l.rest) (ranges_of l.table l.self.cuts)

abbrev pub decreases-loop-from : goal.decreases-loop-from
decreases-loop-from l = length l.rest
