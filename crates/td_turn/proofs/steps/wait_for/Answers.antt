use Rattle.std.proofs.Common.{rules, ◌<◌, ap, ◌∙◌, arith}
use Rattle.td_turn.proofs.Keeps.{watches}
use Rattle.td_turn.proofs.steps.wait_for.Goals as goal

pub load-served-requires : goal.load-served-requires
load-served-requires g c =
    let me = c.loop.seat.me in
    let same = c.loop.invariant.1 in
    let part : 0 < me.0.parts = omega (arith, ap (λ m. m.0.parts) same, c.requires.waits.1) in (
      search rules,
      search rules,
      watches g.V.Turned.base g.V.Turned.first g.V.Turned.list _ _ _ me c.args.ticket (ap (λ m. m.0.stage) same ∙ c.requires.waits.0) part (ap (λ m. m.0.base) same ∙ c.requires.base),
    )
