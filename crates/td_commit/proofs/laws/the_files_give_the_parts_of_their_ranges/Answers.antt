use Rattle.td_commit.proofs.Composed as proof
use Rattle.td_commit.proofs.laws.the_files_give_the_parts_of_their_ranges.Goals as goal

pub returns : goal.returns
returns c = proof.give_parts
