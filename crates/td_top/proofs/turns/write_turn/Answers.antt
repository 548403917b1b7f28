use Rattle.std.proofs.Common.{sym, subst}
use Rattle.td_model.specs.declared.report.Reply.{Reply}
use Rattle.td_core.specs.CoreState.{seen}
use Rattle.td_top.specs.Turns.{TurnOn}
use Rattle.td_top.proofs.Turned.{submit_turn}
use Rattle.td_top.proofs.turns.write_turn.Goals as goal

pub returns : goal.returns
returns g c =
    let s = c.submit-submitted in
    let old = seen g.S.Store.told g.S.Store.count g.C.Clock.readings c.args.core.now in
    let new = seen g.S.Store.told g.S.Store.count g.C.Clock.readings s.new.self in
    subst (λ (r : Reply). TurnOn c.args.stmt.now c.args.session c.args.ordinal old new r) (sym c.reply_of.ensures)
    (submit_turn old new c.args.session c.args.ordinal c.args.stmt.now c.requires.write s.result s.ensures.answer
    (record { facts = s.ensures.facts; rows = s.ensures.rows; journal = s.ensures.journal; image = s.ensures.image; floor = s.ensures.floor; clock = s.ensures.clock }))
