use Rattle.td_lex.proofs.LawsOfTokens as proof
use Rattle.td_lex.proofs.laws.one_front.Goals as goal

pub returns : goal.returns
returns c = proof.one_front
