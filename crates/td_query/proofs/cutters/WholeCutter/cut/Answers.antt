use Rattle.std.proofs.Common.{map, ap, ◌∙◌}
use Rattle.td_query.specs.Cuts.{window_of_span}
use Rattle.td_query.specs.declared.columns.Kept.TheVariants as kept
use Rattle.td_query.proofs.Cutting.{whole_kept}
use Rattle.td_query.proofs.cutters.WholeCutter.cut.Goals as goal

pub returns-clause-windows : goal.returns-clause-windows
returns-clause-windows c = ap (map (window_of_span kept.All c.args.rows.now)) c.in_ok-spans.ensures ∙ whole_kept c.args.rows.now
