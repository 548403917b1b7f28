use Rattle.td_query.proofs.Intervals.{are_interval_windows}
use Rattle.td_query.proofs.laws.interval_windows_are_all.Goals as goal

pub returns : goal.returns
returns c len offset slide rows some = are_interval_windows offset len slide some rows
