use Rattle.td_window.specs.Spans.{time_of}
use Rattle.td_window.proofs.Determined.{intervals_unique}
use Rattle.td_window.proofs.laws.interval_windows_are_determined.Goals as goal

pub returns : goal.returns
returns c = intervals_unique time_of
