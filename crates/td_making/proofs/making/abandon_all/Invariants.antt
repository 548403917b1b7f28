use Rattle.std.proofs.Common.{◌≤◌, map, length}
use Rattle.std.specs.Prelude.{sum}
use Rattle.td_outside.specs.Image.{Along}
use Rattle.td_outside.specs.Causes.{raised}
use Rattle.td_making.specs.Making.{SameHeld}
use Rattle.td_making.proofs.making.abandon_all.Given as goal

-- the image holds what it held, and the count has risen by the faults of the writers that aren't left
abbrev pub invariant-loop-file : goal.invariant-loop-file
invariant-loop-file g l = record {
  image : Along SameHeld (g.S.Store.told l.initial.store) (g.S.Store.told l.store);
  count : raised (g.S.Store.count l.initial.store) (sum (map g.S.Writer.Writer.count l.fn.files))
      ≤ raised (g.S.Store.count l.store) (sum (map g.S.Writer.Writer.count l.files));
}

abbrev pub decreases-loop-file : goal.decreases-loop-file
decreases-loop-file g l = length l.files
