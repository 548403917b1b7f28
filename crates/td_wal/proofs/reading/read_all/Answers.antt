use Rattle.std.proofs.Common.{Ok}
use Rattle.std.proofs.lemmas.Result.{err_from_is_err_and}
use Rattle.td_wal.proofs.LogLaws.{answers_only, fault_only}
use Rattle.td_wal.proofs.reading.read_all.Goals as goal

pub returns-in_err-items-clause-only : goal.returns-in_err-items-clause-only
returns-in_err-items-clause-only c = λ items log.
    let p = err_from_is_err_and c.from_residual.result c.from_residual.ensures.1 in
    rw (p.1, p.2) (fault_only c.args.first c.args.bytes.now c.in_err-items.field-0.0 items items c.in_err-items.ensures log)

pub returns-clause-only : goal.returns-clause-only
returns-clause-only c = λ items log. answers_only c.args.first c.args.bytes.now (Ok c.in_ok-items.items) items c.in_ok-items.ensures.log log
