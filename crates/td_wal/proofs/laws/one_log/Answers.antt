use Rattle.td_wal.proofs.LogLaws.{one_log, log_or_break, one_break}
use Rattle.td_wal.proofs.laws.one_log.Goals as goal

pub returns : goal.returns
returns c = record { log = one_log c.args.first; apart = log_or_break c.args.first; fault = one_break c.args.first }
