use Rattle.td_levels.proofs.Entries.{entries_fit, entries_taken}
use Rattle.td_levels.proofs.laws.entries_are_taken.Goals as goal

pub returns-clause-rows : goal.returns-clause-rows
returns-clause-rows c = entries_taken

pub returns-clause-fit : goal.returns-clause-fit
returns-clause-fit c = entries_fit
