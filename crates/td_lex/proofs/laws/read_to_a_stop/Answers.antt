use Rattle.td_lex.proofs.LawsOfTokens as proof
use Rattle.td_lex.proofs.laws.read_to_a_stop.Goals as goal

pub returns : goal.returns
returns c = proof.read_to_a_stop
