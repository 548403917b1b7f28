use Rattle.std.proofs.Common.{sym, ◌∙◌}
use Rattle.td_top.proofs.Ran.{ran}
use Rattle.td_top.proofs.top.play.Goals as goal

pub returns-then-is_dir-clause-runs : goal.returns-then-is_dir-clause-runs
returns-then-is_dir-clause-runs g c = ran c.args.dir.now (g.C.Clock.readings c.args.clock) _ _ c.run.result (sym c.is_dir.ensures ∙ c.if-is_dir.true) c.run.ensures.says c.run.ensures.few c.run.ensures.given c.run.ensures.sink c.run.ensures.place
