use Rattle.std.proofs.Common.{◌≡◌}
use Rattle.td_turn.specs.Passes.{IsPassOf}
use Rattle.td_turn_tests.proofs.crowd.turns.Given as goal

-- the pass is of the turn, and keeps its parts
abbrev pub invariant-loop : goal.invariant-loop
invariant-loop g l = IsPassOf l.turn l.pass × (l.pass.parts ≡ l.initial.pass.parts)
