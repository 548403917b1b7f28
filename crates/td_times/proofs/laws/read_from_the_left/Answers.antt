use Rattle.td_times.proofs.StampsRead as proof
use Rattle.td_times.proofs.laws.read_from_the_left.Goals as goal

pub returns-clause-says : goal.returns-clause-says
returns-clause-says c = proof.reads_time

pub returns-clause-found : goal.returns-clause-found
returns-clause-found c = proof.timestamp_found
