use Rattle.std.proofs.Common.{rules}
use Rattle.td_turn.proofs.Keeps.{passes, holding}
use Rattle.td_turn.proofs.steps.pass_on.Goals as goal

pub fetch_add-served-requires : goal.fetch_add-served-requires
fetch_add-served-requires g c =
    let me = c.args.seat.now.me in
    let held = holding me.0.stage c.requires.holder.0 in (
      search rules,
      search rules,
      passes g.V.Turned.base g.V.Turned.first g.V.Turned.list _ _ _ me held.0 c.args.like.now.value held.1 c.requires.holder.1 c.requires.slot c.requires.base c.requires.list,
    )
