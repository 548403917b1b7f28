use Rattle.td_opening.specs.declared.causes.OpenCause.TheVariants as causes
use Rattle.td_opening.specs.Opening.{LogsRefuse}
use Rattle.td_opening.proofs.BothLogs.{handed_on}
use Rattle.td_opening.proofs.opening.load.Goals as goal

pub returns-in_err-file_sets-clause-err : goal.returns-in_err-file_sets-clause-err
returns-in_err-file_sets-clause-err c =
    handed_on c.from_residual-in_err-file_sets.result causes.NoMemory (LogsRefuse c.args.head.now c.args.logs.now)
    c.from_residual-in_err-file_sets.ensures.1 tt

pub returns-in_err-replayed-clause-err : goal.returns-in_err-replayed-clause-err
returns-in_err-replayed-clause-err c =
    handed_on c.from_residual-in_err-replayed.result c.in_err-replayed.field-0.0
    (LogsRefuse c.args.head.now c.args.logs.now) c.from_residual-in_err-replayed.ensures.1 c.in_err-replayed.ensures.err
