use Rattle.std.proofs.Common.{◌≡◌, take}
use Rattle.td_state.specs.Heads.{made_of}
use Rattle.td_state.proofs.tables.Tables.add_tables.Given as goal

-- so many tables are added
abbrev pub invariant-loop-table : goal.invariant-loop-table
invariant-loop-table l = l.self.state ≡ made_of l.head.stables (take l.table-index l.tables)
