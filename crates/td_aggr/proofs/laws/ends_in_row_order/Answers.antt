use Rattle.td_aggr.proofs.Order.{HaveOwnKeys-in_row_order, first-in_row_order, last-in_row_order}
use Rattle.td_aggr.proofs.laws.ends_in_row_order.Goals as goal

pub returns-clause-own_keys : goal.returns-clause-own_keys
returns-clause-own_keys c = HaveOwnKeys-in_row_order

pub returns-clause-first : goal.returns-clause-first
returns-clause-first c = first-in_row_order

pub returns-clause-last : goal.returns-clause-last
returns-clause-last c = last-in_row_order
