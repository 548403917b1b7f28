use Rattle.td_manifest.proofs.HeadLaws.{answers_have_bytes, answers_only}
use Rattle.td_manifest.proofs.reading.decode.Goals as goal

pub returns-clause-has_bytes : goal.returns-clause-has_bytes
returns-clause-has_bytes c = answers_have_bytes c.args.bytes.now c.answer.result c.answer.ensures

pub returns-clause-only : goal.returns-clause-only
returns-clause-only c = λ head is. answers_only c.args.bytes.now c.answer.result head c.answer.ensures is
