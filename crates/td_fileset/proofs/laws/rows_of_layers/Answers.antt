use Rattle.td_fileset.proofs.Rows.{rows_rise, rows_found, one_list}
use Rattle.td_fileset.proofs.laws.rows_of_layers.Goals as goal

pub returns-clause-in_order : goal.returns-clause-in_order
returns-clause-in_order c = rows_rise

pub returns-clause-found : goal.returns-clause-found
returns-clause-found c = rows_found

pub returns-clause-determined : goal.returns-clause-determined
returns-clause-determined c = one_list
