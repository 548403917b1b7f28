use Rattle.std.proofs.Common.{◌≡◌, ◌++◌, List, drop, take, length}
use Rattle.td_query.specs.Summed.{wanted_by, AreSums}
use Rattle.td_verdict.specs.Windowed.{Keyed}
use Rattle.td_query.proofs.summing.sum_table.Given as goal

-- the rows that are left stand first, and the others are summed up
abbrev pub invariant-runs : goal.invariant-runs
invariant-runs l =
    (l.left ≡ take (length l.left) l.fn.found)
    × ((rows : List Keyed) → AreSums l.asked.frame l.asked.places.now l.fn.windows rows
    → AreSums l.asked.frame l.asked.places.now l.windows (wanted_by l.asked l.table (drop (length l.left) l.fn.found) ++ rows))

abbrev pub decreases-runs : goal.decreases-runs
decreases-runs l = length l.left
