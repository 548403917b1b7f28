use Rattle.std.proofs.Common.{rules}
use Rattle.td_active.proofs.Written.{written_after, failed_after}
use Rattle.td_active.proofs.writing.write.Goals as goal

pub returns-in_err-log-clause-failed : goal.returns-in_err-log-clause-failed
returns-in_err-log-clause-failed g c = λ k e carries records err.
    failed_after c.args.log.now c.make.new.log k e c.args.item.now (g.S.Store.told c.args.store.now)
    (g.S.Store.told c.make.new.store) (g.S.Store.told c.append.new.store) c.in_ok-make.ensures.made
    (c.in_ok-make.ensures.ok k carries) c.requires.writable records (c.in_err-log.ensures.failed (search (rules, err)))

pub returns-clause-ok : goal.returns-clause-ok
returns-clause-ok g c = λ k e carries records.
    written_after c.args.log.now c.make.new.log c.in_ok-log.field-0 k e c.args.item.now
    (g.S.Store.told c.args.store.now) (g.S.Store.told c.make.new.store) (g.S.Store.told c.append.new.store)
    c.in_ok-make.ensures.made c.in_ok-log.ensures.place (c.in_ok-make.ensures.ok k carries) c.requires.writable records
    c.in_ok-log.ensures.ok
