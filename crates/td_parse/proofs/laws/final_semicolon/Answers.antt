use Rattle.td_parse.proofs.Alike as proof
use Rattle.td_parse.proofs.laws.final_semicolon.Goals as goal

pub returns : goal.returns
returns c = proof.final_semicolon
