use Rattle.td_fileset.proofs.Ranged.{narrow_alike, make_alike}
use Rattle.td_fileset.proofs.laws.rows_of_some_keys.Goals as goal

pub returns-clause-narrow : goal.returns-clause-narrow
returns-clause-narrow c = narrow_alike

pub returns-clause-alike : goal.returns-clause-alike
returns-clause-alike c = make_alike
