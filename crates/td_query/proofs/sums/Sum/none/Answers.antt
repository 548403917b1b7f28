use Rattle.std.proofs.Common.{List, sym, subst, arith}
use Rattle.td_aggr.specs.declared.tally.Tally.{Tally}
use Rattle.td_query.specs.Sums.{AreCounted}
use Rattle.td_query.proofs.SumRows.{counted_none}
use Rattle.td_query.proofs.sums.Sum.none.Goals as goal

pub invariant_of-result : goal.invariant_of-result
invariant_of-result c = record { few = omega arith; counted = subst (λ (ts : List Tally). AreCounted 0 ts) (sym c.in_ok-tallies.ensures) (counted_none c.args.places.now) }
