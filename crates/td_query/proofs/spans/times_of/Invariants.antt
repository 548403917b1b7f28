use Rattle.std.proofs.Common.{◌≡◌, map, take}
use Rattle.td_window.specs.Spans.{time_of}
use Rattle.td_query.proofs.spans.times_of.Given as goal

abbrev pub invariant-rows : goal.invariant-rows
invariant-rows l = l.times.items ≡ map time_of (take l.entry-index l.rows)
