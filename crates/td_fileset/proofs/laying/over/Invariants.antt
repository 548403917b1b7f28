use Rattle.std.proofs.Common.{◌≡◌, ◌++◌, length}
use Rattle.td_layer.specs.Parts.{over}
use Rattle.td_fileset.proofs.laying.over.Given as goal

-- what was laid, and what is left to lay, are all
abbrev pub invariant-loop-cell : goal.invariant-loop-cell
invariant-loop-cell l = l.values ++ over l.left l.below ≡ over l.cells l.under

abbrev pub decreases-loop-cell : goal.decreases-loop-cell
decreases-loop-cell l = length l.left
