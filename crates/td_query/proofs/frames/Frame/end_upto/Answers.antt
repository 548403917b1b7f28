use Rattle.std.proofs.Common.{◌-◌, ◌/◌, arith}
use Rattle.td_query.proofs.frames.Frame.end_upto.Goals as goal

pub returns-clause-end : goal.returns-clause-end
returns-clause-end c = ((c.args.t - c.args.self.phase) / c.args.self.slide, omega arith)
