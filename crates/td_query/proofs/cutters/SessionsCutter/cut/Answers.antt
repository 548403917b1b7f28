use Rattle.std.proofs.Common.{◌∙◌}
use Rattle.td_query.proofs.Cutting.{windows_kept}
use Rattle.td_query.proofs.cutters.SessionsCutter.cut.Goals as goal

pub returns-clause-windows : goal.returns-clause-windows
returns-clause-windows c = windows_kept c.args.rows.now c.in_ok-spans.spans ∙ c.in_ok-spans.ensures.windows
