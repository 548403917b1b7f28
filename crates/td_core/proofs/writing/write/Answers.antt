use Rattle.std.proofs.Common.{rules}
use Rattle.td_core.specs.CoreState.{log_place}
use Rattle.td_core.proofs.Written.{written_after, failed_after}
use Rattle.td_core.proofs.writing.write.Goals as goal

pub returns-in_err-log-clause-failed : goal.returns-in_err-log-clause-failed
returns-in_err-log-clause-failed g c = λ s t carries next e.
    failed_after (log_place c.args.log.now) (log_place c.make.new.log) s t c.args.item.now (g.S.Store.told c.args.store.now) (g.S.Store.told c.make.new.store) (g.S.Store.told c.append.new.store) c.in_ok-make.ensures.place (c.in_ok-make.ensures.ok s carries) c.requires.writable next
    (c.in_err-log.ensures.failed (search (rules, e)))

pub returns-clause-ok : goal.returns-clause-ok
returns-clause-ok g c = λ s t carries next.
    written_after (log_place c.args.log.now) (log_place c.make.new.log) c.in_ok-log.field-0 s t c.args.item.now (g.S.Store.told c.args.store.now) (g.S.Store.told c.make.new.store) (g.S.Store.told c.append.new.store) c.in_ok-make.ensures.place c.in_ok-log.ensures.place (c.in_ok-make.ensures.ok s carries) c.requires.writable next c.in_ok-log.ensures.ok
