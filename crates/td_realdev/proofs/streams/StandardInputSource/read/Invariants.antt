use Rattle.std.proofs.Common.{◌≡◌}
use Rattle.td_realdev.proofs.streams.StandardInputSource.read.Given as goal

-- nothing is counted before the last try
abbrev pub invariant-loop : goal.invariant-loop
invariant-loop g l = (l.self-inside.faults ≡ l.fn.self.faults) × (l.self-inside.given ≡ l.fn.self.given)
