use Rattle.td_window.specs.Spans.{time_of}
use Rattle.td_trigger.proofs.StateSplice.{states_splice}
use Rattle.td_trigger.proofs.laws.state_windows_splice.Goals as goal

pub returns : goal.returns
returns c = states_splice time_of
