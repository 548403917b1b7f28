use Rattle.std.proofs.Common.{◌≡◌}
use Rattle.td_turn.proofs.steps.draw.Given as goal

-- nothing changes before a ticket is drawn
abbrev pub invariant-loop : goal.invariant-loop
invariant-loop g l = (l.seat.table_id ≡ l.initial.seat.table_id) × (l.seat.me ≡ l.initial.seat.me)
