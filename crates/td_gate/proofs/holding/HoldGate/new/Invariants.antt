use Rattle.std.proofs.Common.{◌≡◌, map, take}
use Rattle.td_gate.proofs.holding.HoldGate.new.Given as goal

-- the rules so far are kept
abbrev pub invariant-loop-hold : goal.invariant-loop-hold
invariant-loop-hold l = map (λ h. h.hold) l.held.items ≡ take l.hold-index l.hold-items
