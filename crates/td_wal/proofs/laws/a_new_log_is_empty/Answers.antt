use Rattle.td_wal.specs.Append.{IsSettled}
use Rattle.std.proofs.Common.{[]}
use Rattle.td_wal.proofs.AppendLaws.{new_settled}
use Rattle.td_wal.proofs.ToldLaws.{told_created}
use Rattle.td_wal.proofs.laws.a_new_log_is_empty.Goals as goal

pub returns : goal.returns
returns c = record { log = new_settled; told = λ n first old new made. told_created n (IsSettled first [] 0) old new (new_settled first) made }
