use Rattle.td_wal.proofs.WritingLaws.{continues, continues_writable}
use Rattle.td_wal.proofs.laws.what_continues_a_log.Goals as goal

pub returns : goal.returns
returns c = record { continues = continues; writable = continues_writable }
