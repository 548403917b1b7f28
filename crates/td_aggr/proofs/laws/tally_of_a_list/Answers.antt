use Rattle.td_aggr.proofs.Sound.{rows-tally_of, count-tally_of, IsSound-tally_of}
use Rattle.td_aggr.proofs.laws.tally_of_a_list.Goals as goal

pub returns-clause-rows : goal.returns-clause-rows
returns-clause-rows c = rows-tally_of

pub returns-clause-count : goal.returns-clause-count
returns-clause-count c = count-tally_of

pub returns-clause-sound : goal.returns-clause-sound
returns-clause-sound c = IsSound-tally_of
