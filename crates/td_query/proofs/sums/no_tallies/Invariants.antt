use Rattle.std.proofs.Common.{◌≡◌, map, take}
use Rattle.td_aggr.specs.Tallies.{empty_tally}
use Rattle.td_query.proofs.sums.no_tallies.Given as goal

abbrev pub invariant-places : goal.invariant-places
invariant-places l = l.tallies.items ≡ map (λ _. empty_tally) (take l.index l.places)
