use Rattle.std.proofs.Common.{◌≡◌, ◌≤◌}
use Rattle.td_aggr.specs.Tallies.{IsSound}
use Rattle.td_value_cases.proofs.aggregates.tally.Given as goal

abbrev pub invariant-loop-row : goal.invariant-loop-row
invariant-loop-row l = IsSound l.tally × (l.tally.rows ≡ l.row-index) × (l.tally.count ≤ l.row-index)
