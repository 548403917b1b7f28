use Rattle.td_wal.specs.Append.{LogSays}
use Rattle.td_wal_cases.proofs.Appended.{Holds}
use Rattle.td_wal_cases.proofs.logs.append_each.Given as goal

abbrev pub invariant-loop-item : goal.invariant-loop-item
invariant-loop-item g l = LogSays (g.S.Store.told l.store) 1 (Holds l.first l.items l.item-index l.at)
