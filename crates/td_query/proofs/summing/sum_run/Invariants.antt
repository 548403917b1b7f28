use Rattle.std.proofs.Common.{◌≡◌, take}
use Rattle.td_query.specs.Sums.{sum_of}
use Rattle.td_query.specs.Summed.{wanted_by}
use Rattle.td_query.proofs.summing.sum_run.Given as goal

abbrev pub invariant-rows : goal.invariant-rows
invariant-rows l = l.sum ≡ sum_of l.asked.places.now (wanted_by l.asked l.table (take l.found-index l.run))
