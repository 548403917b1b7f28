use Rattle.td_stands.proofs.Standing as proof
use Rattle.td_stands.proofs.laws.stands_or_breaks.Goals as goal

pub returns : goal.returns
returns c = proof.stands_or_breaks
