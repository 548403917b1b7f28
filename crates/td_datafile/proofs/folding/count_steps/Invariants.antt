use Rattle.std.proofs.Common.{◌≡◌, ◌+◌}
use Rattle.td_datafile.proofs.folding.count_steps.Given as goal

abbrev pub invariant-loop : goal.invariant-loop
invariant-loop g l = l.steps ≡ l.fn.steps + l.counter
