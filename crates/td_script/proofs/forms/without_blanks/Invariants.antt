use Rattle.std.proofs.Common.{◌≡◌, drop}
use Rattle.td_script.specs.Reading.{without_blanks}
use Rattle.td_script.proofs.forms.without_blanks.Given as goal

abbrev pub invariant-loop-i : goal.invariant-loop-i
invariant-loop-i l = without_blanks (drop l.i l.text) ≡ without_blanks l.text
