use Rattle.std.proofs.Common.{rules}
use Rattle.td_turn.proofs.Seats.{splits}
use Rattle.td_turn.proofs.steps.split.Goals as goal

pub split_seat-requires : goal.split_seat-requires
split_seat-requires g c = (search rules, search rules, splits _ _ _ _ _ _ c.requires.idle.0 c.requires.idle.1)
