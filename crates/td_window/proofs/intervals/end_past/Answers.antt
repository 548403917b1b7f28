use Rattle.std.proofs.Common.{◌+◌, ◌-◌, ◌/◌, arith}
use Rattle.td_window.proofs.intervals.end_past.Goals as goal

pub returns-else-t-phase-clause-is_end : goal.returns-else-t-phase-clause-is_end
returns-else-t-phase-clause-is_end c = ((c.args.t - c.args.phase) / c.args.slide + 1, omega arith)
