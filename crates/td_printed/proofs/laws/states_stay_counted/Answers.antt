use Rattle.td_printed.proofs.Counted.{turn_counted}
use Rattle.td_printed.proofs.laws.states_stay_counted.Goals as goal

pub returns-clause-turn : goal.returns-clause-turn
returns-clause-turn c = turn_counted
