use Rattle.std.proofs.Common.{◌≤◌, length, drop}
use Rattle.std.specs.List.{AllByRecursion}
use Rattle.td_query.specs.Summed.{LiesIn}
use Rattle.td_query.proofs.summing.run_start.Given as goal

abbrev pub invariant-rows : goal.invariant-rows
invariant-rows l = (l.at ≤ length l.rows) × AllByRecursion (LiesIn l.frame l.pane) (drop l.at l.rows)

abbrev pub decreases-rows : goal.decreases-rows
decreases-rows l = l.at
