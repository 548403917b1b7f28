use Rattle.td_opening.proofs.LogsSettled.{told_missing}
use Rattle.td_opening.proofs.settling.sync_log.Goals as goal

pub returns-else-is_there-clause-ok : goal.returns-else-is_there-clause-ok
returns-else-is_there-clause-ok g c = told_missing c.args.log c.args.is_there (g.S.Store.told c.args.store.now) c.if-is_there.false c.requires
