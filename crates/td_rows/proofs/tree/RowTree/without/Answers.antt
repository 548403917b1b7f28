use Rattle.std.proofs.Common.{◌∙◌}
use Rattle.td_rows.proofs.Ranges.{pairs_without_is}
use Rattle.td_rows.proofs.tree.RowTree.without.Goals as goal

pub returns : goal.returns
returns c = c.in_ok-tree.ensures ∙ pairs_without_is c.args.table c.args.lo c.args.hi c.self.inside.tree c.args.self.now c.self.view_is
