use Rattle.std.proofs.Common.{◌≡◌, take}
use Rattle.td_state.specs.Kinds.{with_kinds}
use Rattle.td_state.proofs.kinds.kinds_by_table.Given as goal

-- the kinds of so many tables are there
abbrev pub invariant-loop-table : goal.invariant-loop-table
invariant-loop-table l = l.kinds.entries ≡ with_kinds l.catalog.catalog (take l.table-index l.tables)
