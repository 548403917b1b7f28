use Rattle.std.proofs.Common.{◌≡◌, map, take}
use Rattle.td_bind.specs.Tables.{part_at}
use Rattle.td_bind.proofs.tables.parts_of.Given as goal

abbrev pub invariant-loop-table : goal.invariant-loop-table
invariant-loop-table l = l.all ≡ map (part_at l.schema l.parts l.catalog.catalog) (take l.table-index l.tables)
