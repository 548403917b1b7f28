use Rattle.td_wal.proofs.LogLaws.{answers_at_only}
use Rattle.td_wal.proofs.reading.read_to_gate.Goals as goal

pub returns-clause-only : goal.returns-clause-only
returns-clause-only c = λ items at log. answers_at_only c.args.first c.args.bytes.now c.items_of.result items at c.items_of.ensures log
