use Rattle.td_lex.proofs.Places as proof
use Rattle.td_lex.proofs.laws.joined_by_a_blank.Goals as goal

pub returns : goal.returns
returns c = proof.joined_by_a_blank
