use Rattle.td_manifest.proofs.HeadLaws.{head_takes}
use Rattle.td_manifest.proofs.reading.answer.Goals as goal

pub returns-in-Ok : goal.returns-in-Ok
returns-in-Ok c = head_takes c.args.bytes.now c.in-Ok.head (λ i. (c.type_inv.bytes i).fits) c.in-Ok.ensures
