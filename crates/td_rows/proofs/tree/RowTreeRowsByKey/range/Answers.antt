use Rattle.std.proofs.Common.{◌∙◌}
use Rattle.td_rows.proofs.Ranges.{pairs_within_is}
use Rattle.td_rows.proofs.tree.RowTreeRowsByKey.range.Goals as goal

pub returns-clause-rows : goal.returns-clause-rows
returns-clause-rows c =
    c.range.ensures.pairs ∙ pairs_within_is c.args.table c.args.lo c.args.hi c.self.inside.tree c.args.self.now c.self.view_is
