use Rattle.td_stands.proofs.Standing as proof
use Rattle.td_stands.proofs.laws.one_state.Goals as goal

pub returns : goal.returns
returns c = proof.one_state
