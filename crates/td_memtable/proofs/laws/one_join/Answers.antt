use Rattle.td_memtable.proofs.OneJoin as proof
use Rattle.td_memtable.proofs.laws.one_join.Goals as goal

pub returns : goal.returns
returns c = proof.one_join
