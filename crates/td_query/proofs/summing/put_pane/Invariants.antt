use Rattle.std.proofs.Common.{◌≡◌, ◌⊎◌, ◌≤◌, ◌+◌, ◌-◌, ℕ, IsSome}
use Rattle.std.specs.BTreeMap.{get}
use Rattle.std.specs.Ordering.{nat_cmp}
use Rattle.td_query.specs.Frames.{IsEnd}
use Rattle.td_query.proofs.Panes.{laid_between}
use Rattle.td_query.proofs.summing.put_pane.Given as goal

-- the windows whose ends were passed have the rows
abbrev pub invariant-ends : goal.invariant-ends
invariant-ends l =
    IsEnd l.frame.phase l.frame.slide l.end
    × (l.pane.first ≤ l.end)
    × (l.pane.first ≤ l.pane.last + l.frame.slide → l.end ≤ l.pane.last + l.frame.slide)
    × ((q : ℕ) → IsEnd l.frame.phase l.frame.slide q → get nat_cmp l.windows q ≡ laid_between l.sum l.fn.windows l.pane.first l.end q)
    × ((q : ℕ) → IsSome (get nat_cmp l.windows q) → IsEnd l.frame.phase l.frame.slide q ⊎ IsSome (get nat_cmp l.fn.windows q))

abbrev pub decreases-ends : goal.decreases-ends
decreases-ends l = l.pane.last + 1 - l.end
