use Rattle.td_levels.proofs.Frozen.{freezes_keep}
use Rattle.td_levels.proofs.laws.freezes_keep_rows.Goals as goal

pub returns : goal.returns
returns c = freezes_keep
