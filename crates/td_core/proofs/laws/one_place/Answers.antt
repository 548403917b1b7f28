use Rattle.td_core.proofs.Standing as proof
use Rattle.td_core.proofs.laws.one_place.Goals as goal

pub returns : goal.returns
returns c = proof.one_place
