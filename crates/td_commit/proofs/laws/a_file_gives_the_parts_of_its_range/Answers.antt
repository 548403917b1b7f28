use Rattle.td_commit.proofs.Parts as proof
use Rattle.td_commit.proofs.laws.a_file_gives_the_parts_of_its_range.Goals as goal

pub returns : goal.returns
returns c = proof.gives_parts
