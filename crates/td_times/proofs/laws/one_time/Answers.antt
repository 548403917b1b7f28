use Rattle.td_times.proofs.StampsRead as proof
use Rattle.td_times.proofs.laws.one_time.Goals as goal

pub returns : goal.returns
returns c = proof.one_time
