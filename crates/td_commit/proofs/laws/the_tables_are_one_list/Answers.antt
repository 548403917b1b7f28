use Rattle.td_commit.proofs.OneList as proof
use Rattle.td_commit.proofs.laws.the_tables_are_one_list.Goals as goal

pub returns : goal.returns
returns c = λ f range tables others. proof.one_list f range 1 tables others
