use Rattle.std.proofs.Common.{List, [], sym, subst}
use Rattle.td_script.specs.declared.lines.Line.{Line}
use Rattle.td_script.specs.Script.{Numbered}
use Rattle.td_script.proofs.Whole.{numbered}
use Rattle.td_top.proofs.top.run.Goals as goal

pub play_at-requires-clause-numbered : goal.play_at-requires-clause-numbered
play_at-requires-clause-numbered g c κs within =
    subst (λ (x : List Line). Numbered [] x) (sym c.as_slice.ensures) (numbered _ c.in-Ok.lines c.in-Ok.ensures.script.is_script)
