use Rattle.td_aggr.proofs.Order.{aggregate-permutation}
use Rattle.td_aggr.proofs.laws.aggregates_in_any_order.Goals as goal

pub returns : goal.returns
returns c = aggregate-permutation
