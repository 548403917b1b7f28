use Rattle.td_parse.proofs.Alike as proof
use Rattle.td_parse.proofs.laws.one_tree.Goals as goal

pub returns : goal.returns
returns c = proof.one_tree
