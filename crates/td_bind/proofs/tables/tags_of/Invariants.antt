use Rattle.std.proofs.Common.{◌≡◌, map, take}
use Rattle.td_bind.specs.Tables.{tags_at}
use Rattle.td_bind.proofs.tables.tags_of.Given as goal

abbrev pub invariant-loop-table : goal.invariant-loop-table
invariant-loop-table l = l.all ≡ map (tags_at l.catalog.catalog) (take l.table-index l.tables)
