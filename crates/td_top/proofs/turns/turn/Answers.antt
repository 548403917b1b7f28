use Rattle.std.proofs.Common.{◌∙◌, sym, ap}
use Rattle.td_core.specs.CoreState.{seen}
use Rattle.td_top.proofs.Turned.{read_turn_to}
use Rattle.td_top.proofs.turns.turn.Goals as goal

pub returns-else-reads_clock : goal.returns-else-reads_clock
returns-else-reads_clock g c =
    read_turn_to (seen g.S.Store.told g.S.Store.count g.C.Clock.readings c.args.core.now) _ c.args.session c.args.ordinal c.args.stmt.now c.read_turn.result
    (sym c.reads_clock.ensures ∙ c.if-reads_clock.false) c.read_turn.ensures.reply (ap (λ k. seen g.S.Store.told g.S.Store.count g.C.Clock.readings k) c.read_turn.ensures.core)
