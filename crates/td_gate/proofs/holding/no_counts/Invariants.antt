use Rattle.std.proofs.Common.{◌≡◌, vec_len}
use Rattle.td_gate.proofs.holding.no_counts.Given as goal

abbrev pub invariant-loop : goal.invariant-loop
invariant-loop l = vec_len l.counts ≡ l.counter
