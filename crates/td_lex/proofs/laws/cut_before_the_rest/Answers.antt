use Rattle.td_lex.proofs.Places as proof
use Rattle.td_lex.proofs.laws.cut_before_the_rest.Goals as goal

pub returns : goal.returns
returns c = proof.cut_before_the_rest
