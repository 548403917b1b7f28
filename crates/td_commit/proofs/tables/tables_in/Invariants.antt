use Rattle.std.proofs.Common.{◌-◌, ◌^◌, ◌≤◌}
use Rattle.td_commit.proofs.Listed.{AreSoFar}
use Rattle.td_commit.proofs.tables.tables_in.Given as goal

abbrev pub invariant-loop-table : goal.invariant-loop-table
invariant-loop-table l = record { some : 1 ≤ l.from; so_far : AreSoFar l.frozen l.range l.from l.tables }

abbrev pub decreases-loop-table : goal.decreases-loop-table
decreases-loop-table l = 2 ^ 32 - l.from
