use Rattle.std.proofs.Common.{length}
use Rattle.std.proofs.lemmas.List.Elements.{recursion_from_All}
use Rattle.td_window.specs.Spans.{time_of, IsInside}
use Rattle.td_window.proofs.Regroup.{intervals_over, sessions_over, states_over}
use Rattle.td_window.proofs.laws.spans_group_rows.Goals as goal

pub returns-clause-intervals : goal.returns-clause-intervals
returns-clause-intervals c = λ len offset slide rows spans inside. intervals_over time_of len offset slide rows spans (recursion_from_All (IsInside (length rows)) spans inside)

pub returns-clause-sessions : goal.returns-clause-sessions
returns-clause-sessions c = λ tolerance rows spans inside. sessions_over time_of tolerance rows spans (recursion_from_All (IsInside (length rows)) spans inside)

pub returns-clause-states : goal.returns-clause-states
returns-clause-states c = λ state rows spans inside. states_over time_of state rows spans (recursion_from_All (IsInside (length rows)) spans inside)
