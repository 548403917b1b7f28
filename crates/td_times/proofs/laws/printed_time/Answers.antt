use Rattle.td_times.proofs.Printed as proof
use Rattle.td_times.proofs.laws.printed_time.Goals as goal

pub returns : goal.returns
returns c = proof.printed_time
