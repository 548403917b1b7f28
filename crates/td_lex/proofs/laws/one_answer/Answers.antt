use Rattle.td_lex.proofs.OneAnswer as proof
use Rattle.td_lex.proofs.laws.one_answer.Goals as goal

pub returns : goal.returns
returns c = proof.one_answer
