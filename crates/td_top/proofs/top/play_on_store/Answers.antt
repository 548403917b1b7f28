use Rattle.std.proofs.Common.{sym, ap, subst}
use Rattle.td_core.specs.CoreState.{seen}
use Rattle.td_top.specs.declared.status.Status.{Status}
use Rattle.td_top.specs.Status.{PlaysAt, store_effects}
use Rattle.td_top.proofs.Streams.{keeps_itself}
use Rattle.td_top.proofs.Places.{on_core, unopened_says}
use Rattle.td_top.proofs.top.play_on_store.Goals as goal

pub returns-in-Ok-clause-plays : goal.returns-in-Ok-clause-plays
returns-in-Ok-clause-plays g c =
    let opened = c.in-Ok.ensures in
    let plays = on_core c.args.lines.now _ _ _ _ _ _ _ (seen g.S.Store.told g.S.Store.count g.C.Clock.readings c.in-Ok.core) (seen g.S.Store.told g.S.Store.count g.C.Clock.readings c.play_on_core-status.new.core)
    opened.stands opened.halt (ap (λ k. g.C.Clock.readings k) opened.clock) opened.count c.play_on_core-status.result c.play_on_core-status.ensures.plays in
    subst (λ s. PlaysAt (g.C.Clock.readings c.args.clock) c.args.lines.now (store_effects g.O.Sink.written g.O.Sink.count g.S.Store.told g.S.Store.count c.args.out.now c.args.store) (store_effects g.O.Sink.written g.O.Sink.count g.S.Store.told g.S.Store.count c.play_on_core-status.new.out s) c.play_on_core-status.result) (sym c.close_core.ensures) plays

pub returns-in-Err-clause-plays : goal.returns-in-Err-clause-plays
returns-in-Err-clause-plays g c =
    let refused = c.in-Err.ensures in
    let says = unopened_says c.args.lines.now (g.C.Clock.readings c.args.clock) (g.O.Sink.written c.args.out.now) (keeps_itself (g.O.Sink.written c.args.out.now)) (g.O.Sink.count c.args.out.now) _ _ _ _ refused.tidy c.in-Err.refused.cause refused.strange refused.untouched refused.fault in
    subst (λ (s : Status). PlaysAt (g.C.Clock.readings c.args.clock) c.args.lines.now (store_effects g.O.Sink.written g.O.Sink.count g.S.Store.told g.S.Store.count c.args.out.now c.args.store) (store_effects g.O.Sink.written g.O.Sink.count g.S.Store.told g.S.Store.count c.args.out.now c.in-Err.refused.store) s) (sym c.from.ensures) says
