use Rattle.td_lex.proofs.Places as proof
use Rattle.td_lex.proofs.laws.cut_at_a_token.Goals as goal

pub returns : goal.returns
returns c = proof.cut_at_a_token
