use Rattle.td_wal.proofs.CrashLaws.{leaves_settled, leaves_either}
use Rattle.td_wal.proofs.laws.a_crash_leaves_a_log.Goals as goal

pub returns : goal.returns
returns c = record { settled = leaves_settled; failed = leaves_either }
