use Rattle.td_script.proofs.Whole as proof
use Rattle.td_script.proofs.laws.numbered.Goals as goal

pub returns : goal.returns
returns c = proof.numbered
