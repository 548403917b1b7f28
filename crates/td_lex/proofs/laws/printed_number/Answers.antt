use Rattle.td_lex.proofs.Printed as proof
use Rattle.td_lex.proofs.laws.printed_number.Goals as goal

pub returns : goal.returns
returns c = proof.printed_number
