use Rattle.std.proofs.Common.{length}
use Rattle.td_script.proofs.Progress.{Progress}
use Rattle.td_script.proofs.reading.script.Given as goal

abbrev pub invariant-loop-rest : goal.invariant-loop-rest
invariant-loop-rest l = Progress l.bytes l.rest l.number l.numbering

abbrev pub decreases-loop-rest : goal.decreases-loop-rest
decreases-loop-rest l = length l.rest
