use Rattle.td_printed.proofs.States.{empty_printable, entry_printable}
use Rattle.td_printed.proofs.laws.states_stay_printable.Goals as goal

pub returns-clause-empty : goal.returns-clause-empty
returns-clause-empty c = empty_printable

pub returns-clause-entry : goal.returns-clause-entry
returns-clause-entry c = entry_printable
