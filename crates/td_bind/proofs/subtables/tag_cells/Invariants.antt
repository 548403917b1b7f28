use Rattle.std.proofs.Common.{◌≡◌, ◌++◌, drop}
use Rattle.td_bind.specs.Literals.{cells_said}
use Rattle.td_bind.proofs.subtables.tag_cells.Given as goal

abbrev pub invariant-loop-i : goal.invariant-loop-i
invariant-loop-i l = cells_said l.tags l.said l.lits ≡ l.cells ++ cells_said (drop l.i l.tags) (drop l.i l.said) (drop l.i l.lits)
