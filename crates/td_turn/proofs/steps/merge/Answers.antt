use Rattle.std.proofs.Common.{rules, ap, arith}
use Rattle.td_turn.proofs.Seats.{joins}
use Rattle.td_turn.proofs.Keeps.{tells}
use Rattle.td_turn.proofs.steps.merge.Goals as goal

pub join_seat-requires : goal.join_seat-requires
join_seat-requires g c = (search rules, search rules, search rules, search rules, joins _ _ _ _ _ _ _ _ c.requires.idle.0 c.requires.idle.1 c.requires.parts)

pub load-requires : goal.load-requires
load-requires g c =
    let now = c.join_seat.ensures.2 in
    (search rules, search rules, tells _ _ _ _ _ _ _ (ap (λ m. m.0.stage) now) (omega (arith, c.requires.parts, ap (λ m. m.0.parts) now)))
