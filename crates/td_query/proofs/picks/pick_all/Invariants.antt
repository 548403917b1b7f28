use Rattle.std.proofs.Common.{◌≡◌, ℕ, drop}
use Rattle.td_query.specs.Planned.{tables_of}
use Rattle.td_query.specs.Picks.{found_rows}
use Rattle.td_query.proofs.Picking.{Picks}
use Rattle.td_query.proofs.TableByTable.{Takes}
use Rattle.td_query.proofs.picks.pick_all.Given as goal

abbrev pub invariant-tables : goal.invariant-tables
invariant-tables g l =
    Picks l.plan l.comparisons (drop l.at (tables_of l.plan)) (g.Q.Snapshot.rows l.fn.snap) (found_rows l.plan.schema.columns l.picked.entries)
    × (g.Q.Snapshot.rows l.snap ≡ g.Q.Snapshot.rows l.fn.snap)
    × ((t lo hi : ℕ) → g.Q.Snapshot.held l.snap t lo hi ≡ g.Q.Snapshot.held l.fn.snap t lo hi)
    × (g.Q.Snapshot.damaged l.snap ≡ g.Q.Snapshot.damaged l.fn.snap)
    × (g.Q.Snapshot.count l.snap ≡ g.Q.Snapshot.count l.fn.snap)
    × Takes (g.Q.Snapshot.held l.fn.snap) l.plan (drop l.at (tables_of l.plan)) l.fn.steps l.steps
