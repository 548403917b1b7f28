use Rattle.td_window.specs.Spans.{time_of}
use Rattle.td_trigger.proofs.SessionSplice as splice
use Rattle.td_trigger.proofs.laws.sessions_splice.Goals as goal

pub returns : goal.returns
returns c = splice.sessions_splice time_of
