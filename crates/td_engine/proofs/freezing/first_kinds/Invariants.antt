use Rattle.std.proofs.Common.{◌≡◌, take, length}
use Rattle.td_engine.proofs.freezing.first_kinds.Given as goal

abbrev pub invariant-loop-kinds : goal.invariant-loop-kinds
invariant-loop-kinds l = (take l.count l.kinds ≡ take l.count l.initial.kinds)

abbrev pub decreases-loop-kinds : goal.decreases-loop-kinds
decreases-loop-kinds l = length l.kinds
