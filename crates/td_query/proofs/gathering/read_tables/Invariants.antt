use Rattle.std.proofs.Common.{◌≡◌, ℕ, drop}
use Rattle.td_query.specs.Planned.{tables_of}
use Rattle.td_query.specs.Read.{all_grouped, AreGood}
use Rattle.td_query.proofs.TableByTable.{Finds, Takes}
use Rattle.td_query.proofs.gathering.read_tables.Given as goal

abbrev pub invariant-tables : goal.invariant-tables
invariant-tables g l =
    Finds l.plan l.comparisons (drop l.at (tables_of l.plan)) (g.Q.Snapshot.rows l.fn.snap) (all_grouped l.fn.groups.items) (all_grouped l.groups.items)
    × (AreGood l.plan.hi (all_grouped l.fn.groups.items) → AreGood l.plan.hi (all_grouped l.groups.items))
    × (g.Q.Snapshot.rows l.snap ≡ g.Q.Snapshot.rows l.fn.snap)
    × ((t lo hi : ℕ) → g.Q.Snapshot.held l.snap t lo hi ≡ g.Q.Snapshot.held l.fn.snap t lo hi)
    × (g.Q.Snapshot.damaged l.snap ≡ g.Q.Snapshot.damaged l.fn.snap)
    × (g.Q.Snapshot.count l.snap ≡ g.Q.Snapshot.count l.fn.snap)
    × Takes (g.Q.Snapshot.held l.fn.snap) l.plan (drop l.at (tables_of l.plan)) l.fn.steps l.steps
