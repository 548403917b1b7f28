use Rattle.std.proofs.Common.{rules}
use Rattle.td_active.proofs.Written.{made_by_create, failed_to_create}
use Rattle.td_active.proofs.writing.make.Goals as goal

pub returns-in_err-log_create-clause-failed : goal.returns-in_err-log_create-clause-failed
returns-in_err-log_create-clause-failed g c = λ k carries err.
    failed_to_create c.args.log.now k (g.S.Store.told c.args.store.now) (g.S.Store.told c.log_create.new.self) carries
    (c.in_err-log_create.ensures.failed (search (rules, err)))

pub returns-in_ok-log_create-clause-ok : goal.returns-in_ok-log_create-clause-ok
returns-in_ok-log_create-clause-ok g c = λ k carries.
    made_by_create c.args.log.now k (g.S.Store.told c.args.store.now) (g.S.Store.told c.log_create.new.self)
    (search (rules, c.if-not-log.true)) carries c.in_ok-log_create.ensures.ok
