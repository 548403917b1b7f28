use Rattle.td_stands.proofs.Replaying.{one_replay, replays_then}
use Rattle.td_stands.proofs.Rows.{rows_have_no_part}
use Rattle.td_stands.proofs.laws.replays_are_one.Goals as goal

pub returns-clause-one : goal.returns-clause-one
returns-clause-one c = one_replay

pub returns-clause-follow : goal.returns-clause-follow
returns-clause-follow c = replays_then

pub returns-clause-rows : goal.returns-clause-rows
returns-clause-rows c = rows_have_no_part
