use Rattle.td_wal.proofs.LogLaws.{behind_gate}
use Rattle.td_wal.proofs.laws.nothing_behind_a_closed_gate.Goals as goal

pub returns : goal.returns
returns c = behind_gate c.args.first
