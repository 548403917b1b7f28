use Rattle.std.proofs.Common.{◌≡◌, take}
use Rattle.td_verdict.specs.Answers.{shown}
use Rattle.td_answer.specs.Lines.{line_cells}
use Rattle.td_answer.proofs.shown.shown.Given as goal

abbrev pub invariant-loop-place : goal.invariant-loop-place
invariant-loop-place l = l.all ≡ shown (take l.place-index l.places) (line_cells l.columns l.line)
