use Rattle.td_wal.proofs.WritingLaws.{next_gate_is}
use Rattle.td_wal.proofs.laws.where_the_next_gate_stands.Goals as goal

pub returns : goal.returns
returns c = next_gate_is
