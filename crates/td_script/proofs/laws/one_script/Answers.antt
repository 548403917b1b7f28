use Rattle.td_script.proofs.Whole as proof
use Rattle.td_script.proofs.laws.one_script.Goals as goal

pub returns : goal.returns
returns c = proof.one_script
