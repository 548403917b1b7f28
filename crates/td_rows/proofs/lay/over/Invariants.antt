use Rattle.std.proofs.Common.{◌≡◌, ◌++◌, drop}
use Rattle.td_model.specs.State.{over}
use Rattle.td_rows.proofs.lay.over.Given as goal

-- what was laid, and what is left to lay, are all
abbrev pub invariant-loop-i : goal.invariant-loop-i
invariant-loop-i l = l.laid ++ over (drop l.i l.cells) (drop l.i l.values) ≡ over l.cells l.values
