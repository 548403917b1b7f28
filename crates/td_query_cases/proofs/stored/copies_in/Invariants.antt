use Rattle.std.proofs.Common.{◌≡◌, ◌≤◌, ◌+◌, take, length}
use Rattle.td_layer.specs.Scans.{rows_in}
use Rattle.td_query_cases.proofs.stored.copies_in.Given as goal

abbrev pub invariant-rows : goal.invariant-rows
invariant-rows g l = (l.found ≡ rows_in l.table l.lo l.hi (take l.entry-index l.rows)) × (l.fn.steps + length l.found ≤ l.steps)
