use Rattle.td_memdev.specs.Tables.{AreTaken}
use Rattle.td_memdev.proofs.table.free_from.Given as goal

-- the numbers so far have entries
abbrev pub invariant-loop-number : goal.invariant-loop-number
invariant-loop-number g l = AreTaken g.T.Numbered.number l.from l.number l.entries
