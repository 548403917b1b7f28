use Rattle.std.proofs.Common.{◌≡◌, ◌++◌, take, drop}
use Rattle.std.specs.Option.{option_map}
use Rattle.td_script.specs.Reading.{parted_at}
use Rattle.td_script.proofs.forms.parted.Given as goal

abbrev pub invariant-loop-i : goal.invariant-loop-i
invariant-loop-i l = option_map (λ p. (take l.i l.text ++ p.0, p.1)) (parted_at l.byte (drop l.i l.text)) ≡ parted_at l.byte l.text
