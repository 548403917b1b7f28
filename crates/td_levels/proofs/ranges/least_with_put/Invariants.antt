use Rattle.std.proofs.Common.{◌-◌, ◌^◌}
use Rattle.std.specs.List.{list_any}
use Rattle.td_levels.specs.Days.{LeastFrom}
use Rattle.td_levels.proofs.LeastOf.{below}
use Rattle.td_levels.proofs.ranges.least_with_put.Given as goal

-- the least of the tables so far
abbrev pub invariant-loop-next : goal.invariant-loop-next
invariant-loop-next l = LeastFrom (λ n. list_any (below l.table n) l.memtable.puts) l.from l.least

abbrev pub decreases-loop-next : goal.decreases-loop-next
decreases-loop-next l = 2 ^ 32 - l.table
