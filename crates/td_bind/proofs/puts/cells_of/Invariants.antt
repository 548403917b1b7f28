use Rattle.std.proofs.Common.{◌≡◌, ◌++◌, drop, map}
use Rattle.td_bind.specs.Literals.{cell_said}
use Rattle.td_bind.proofs.puts.cells_of.Given as goal

abbrev pub invariant-loop-place : goal.invariant-loop-place
invariant-loop-place l = map (cell_said l.said) l.places ≡ l.cells ++ map (cell_said l.said) (drop l.place-index l.places)
