use Rattle.td_window.specs.Spans.{time_of}
use Rattle.td_trigger.proofs.IntervalSplice.{intervals_splice}
use Rattle.td_trigger.proofs.laws.interval_windows_splice.Goals as goal

pub returns : goal.returns
returns c = λ len offset slide s n touched before after old windows_in change are each. intervals_splice time_of len offset slide s n touched before after change windows_in old are each
