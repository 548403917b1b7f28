use Rattle.td_lex.proofs.Places as proof
use Rattle.td_lex.proofs.laws.one_token.Goals as goal

pub returns : goal.returns
returns c = proof.one_token
