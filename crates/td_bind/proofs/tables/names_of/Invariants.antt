use Rattle.std.proofs.Common.{◌≡◌, map, take}
use Rattle.td_bind.specs.Tables.{name_at}
use Rattle.td_bind.proofs.tables.names_of.Given as goal

abbrev pub invariant-loop-table : goal.invariant-loop-table
invariant-loop-table l = l.all ≡ map (name_at l.catalog.catalog) (take l.table-index l.tables)
