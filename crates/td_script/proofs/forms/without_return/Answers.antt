use Rattle.std.proofs.Common.{◌∙◌}
use Rattle.td_script.proofs.Returns.{with_return, with_none}
use Rattle.td_script.proofs.forms.without_return.Goals as goal

pub returns-in-Some : goal.returns-in-Some
returns-in-Some c = c.in-Some.ensures.cases.1 ∙ with_return c.args.line.now c.in-Some.ensures.cases.0

pub returns-in-None : goal.returns-in-None
returns-in-None c = with_none c.args.line.now c.in-None.ensures.cases
