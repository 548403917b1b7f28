use Rattle.std.proofs.Common.{◌≡◌, length}
use Rattle.td_datafile.specs.Blocks.{first_unnamed}
use Rattle.td_datafile.proofs.blocks.first_unnamed.Given as goal

abbrev pub invariant-loop-kind : goal.invariant-loop-kind
invariant-loop-kind l = first_unnamed l.at l.rows l.left l.part ≡ first_unnamed l.initial.at l.rows l.kinds l.part

abbrev pub decreases-loop-kind : goal.decreases-loop-kind
decreases-loop-kind l = length l.left
