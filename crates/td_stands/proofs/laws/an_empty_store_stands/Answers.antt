use Rattle.td_stands.proofs.Standing as proof
use Rattle.td_stands.proofs.laws.an_empty_store_stands.Goals as goal

pub returns : goal.returns
returns c = proof.empty_stands
