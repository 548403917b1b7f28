use Rattle.std.proofs.Common.{◌≡◌}
use Rattle.td_aggr.specs.Tallies.{merged}
use Rattle.td_query.proofs.SumRows.{partly}
use Rattle.td_query.proofs.sums.join_tallies.Given as goal

-- the tallies before the place are joined
abbrev pub invariant-tallies : goal.invariant-tallies
invariant-tallies l = l.tallies ≡ partly merged l.at l.fronts l.fn.tallies
