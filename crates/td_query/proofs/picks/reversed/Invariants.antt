use Rattle.std.proofs.Common.{◌≡◌, ◌++◌, reverse, length}
use Rattle.td_query.proofs.picks.reversed.Given as goal

abbrev pub invariant-rows : goal.invariant-rows
invariant-rows l = l.all.items ++ reverse l.left ≡ reverse l.fn.rows

abbrev pub decreases-rows : goal.decreases-rows
decreases-rows l = length l.left
