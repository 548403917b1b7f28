use Rattle.td_trigger.proofs.IntervalNumbers.{begins_at_first, ends_with_last}
use Rattle.td_trigger.proofs.laws.intervals_meet_their_windows.Goals as goal

pub returns-clause-first : goal.returns-clause-first
returns-clause-first c = begins_at_first

pub returns-clause-last : goal.returns-clause-last
returns-clause-last c = ends_with_last
