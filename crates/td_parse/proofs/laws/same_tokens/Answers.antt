use Rattle.td_parse.proofs.Alike as proof
use Rattle.td_parse.proofs.laws.same_tokens.Goals as goal

pub returns : goal.returns
returns c = proof.same_tokens
