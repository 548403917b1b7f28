use Rattle.td_levels.proofs.Plans.{plans_read}
use Rattle.td_levels.proofs.laws.plans_read_rows.Goals as goal

pub returns : goal.returns
returns c = plans_read
