use Rattle.std.proofs.Common.{◌<◌}
use Rattle.td_gate.proofs.holding.HoldGate.is_met_in_time.Given as goal

-- a rule that asks for no times is met at the first look
abbrev pub invariant-loop : goal.invariant-loop
invariant-loop l = 0 < l.counter → 0 < l.hold.times
