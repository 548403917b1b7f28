use Rattle.std.proofs.Common.{◌≡◌, take}
use Rattle.td_answer.specs.Lines.{lines_shown}
use Rattle.td_answer.proofs.shown.shown_all.Given as goal

abbrev pub invariant-loop-line : goal.invariant-loop-line
invariant-loop-line l = l.all ≡ lines_shown l.columns l.places (take l.line-index l.lines)
