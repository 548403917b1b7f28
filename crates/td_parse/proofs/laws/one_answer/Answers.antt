use Rattle.td_parse.proofs.OneAnswer as proof
use Rattle.td_parse.proofs.laws.one_answer.Goals as goal

pub returns : goal.returns
returns c = proof.one_answer
