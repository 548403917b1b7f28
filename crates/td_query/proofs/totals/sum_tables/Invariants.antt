use Rattle.std.proofs.Common.{◌≡◌, ℕ, drop}
use Rattle.td_query.specs.Planned.{tables_of}
use Rattle.td_query.proofs.Reading.{Sums}
use Rattle.td_query.proofs.TableByTable.{Takes}
use Rattle.td_verdict.specs.Groups.{first_groups}
use Rattle.td_query.proofs.totals.sum_tables.Given as goal

abbrev pub invariant-tables : goal.invariant-tables
invariant-tables g l =
    Sums l.asked.frame l.asked.places.now l.asked.plan.now l.asked.comparisons.now (first_groups l.one) (drop l.at (tables_of l.asked.plan.now)) (g.Q.Snapshot.rows l.fn.snap) l.groups.items
    × (g.Q.Snapshot.rows l.snap ≡ g.Q.Snapshot.rows l.fn.snap)
    × ((t lo hi : ℕ) → g.Q.Snapshot.held l.snap t lo hi ≡ g.Q.Snapshot.held l.fn.snap t lo hi)
    × (g.Q.Snapshot.damaged l.snap ≡ g.Q.Snapshot.damaged l.fn.snap)
    × (g.Q.Snapshot.count l.snap ≡ g.Q.Snapshot.count l.fn.snap)
    × Takes (g.Q.Snapshot.held l.fn.snap) l.asked.plan.now (drop l.at (tables_of l.asked.plan.now)) l.fn.steps l.steps
