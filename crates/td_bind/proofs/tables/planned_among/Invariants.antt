use Rattle.std.proofs.Common.{◌≡◌, filter, take}
use Rattle.td_bind.specs.Tables.{is_planned}
use Rattle.td_bind.proofs.tables.planned_among.Given as goal

abbrev pub invariant-loop-table : goal.invariant-loop-table
invariant-loop-table l = l.planned ≡ filter (is_planned l.stable l.columns l.comparisons l.catalog.catalog) (take l.table-index l.tables)
