use Rattle.std.proofs.Common.{◌≡◌, ◌++◌, drop}
use Rattle.td_layer.specs.Parts.{cells_over}
use Rattle.td_layer.proofs.parts.cells_over.Given as goal

-- what was laid, and what is left to lay, are all
abbrev pub invariant-loop-i : goal.invariant-loop-i
invariant-loop-i l = l.cells.items ++ cells_over (drop l.i l.over) (drop l.i l.under) ≡ cells_over l.over l.under
