use Rattle.std.proofs.Common.{rules, ◌+◌, ◌^◌, ◌<◌, arith}
use Rattle.td_turn.proofs.Keeps.{draws}
use Rattle.td_turn.proofs.steps.draw_at.Goals as goal

pub compare_exchange-requires : goal.compare_exchange-requires
compare_exchange-requires g c =
    let small : c.args.next + 1 < 2 ^ 64 = omega (arith, c.ranges.next, c.requires.last) in
    (search rules, search rules, draws g.V.Turned.base g.V.Turned.first g.V.Turned.list _ _ _ c.args.seat.now.me c.args.next c.requires.idle.0 c.requires.idle.1 small)
