use Rattle.std.proofs.Common.{◌∙◌, ap, subst, sym}
use Rattle.std.specs.Result.{result_ok}
use Rattle.td_times.specs.Times.{SaysTime}
use Rattle.td_times.proofs.StampsRead.{says_time, read_time}
use Rattle.td_times.proofs.timestamps.timestamp.Goals as goal

pub returns-clause-says : goal.returns-clause-says
returns-clause-says c = subst (SaysTime c.args.text.now) (sym c.ok_or.ensures.value) (says_time c.args.text.now c.stamp.result c.stamp.ensures)

pub returns-clause-read : goal.returns-clause-read
returns-clause-read c = ap result_ok c.ok_or.ensures.value ∙ read_time c.stamp.result ∙ c.stamp.ensures
