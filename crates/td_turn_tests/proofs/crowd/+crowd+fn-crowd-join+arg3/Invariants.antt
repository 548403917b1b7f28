use Rattle.td_turn_tests.proofs.crowd.+crowd+fn-crowd-join+arg3.Given as goal

abbrev pub decreases-crowd : goal.decreases-crowd
decreases-crowd g l = l.others

abbrev pub decreases-join+arg3 : goal.decreases-join+arg3
decreases-join+arg3 g l = l.left
