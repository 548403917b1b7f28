use Rattle.std.proofs.Common.{◌≡◌, ℕ, take}
use Rattle.td_outside.specs.Files.{lists}
use Rattle.td_opening.proofs.numbers.Numbers.of.Given as goal

abbrev pub invariant-loop-number : goal.invariant-loop-number
invariant-loop-number l = (n : ℕ) → lists n l.set.keys ≡ lists n (take l.number-index l.numbers)
