use Rattle.td_query.proofs.Cutting.{count_all}
use Rattle.td_query.proofs.columns.count_of.Goals as goal

pub returns-in-All : goal.returns-in-All
returns-in-All c = count_all c.args.kept c.args.rows.now c.in-All.is
