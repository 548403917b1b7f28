use Rattle.std.proofs.Common.{sym, ap, ◌∙◌}
use Rattle.td_wal.specs.Items.{body_bytes}
use Rattle.td_wal.proofs.WritingLaws.{text_body, size_of, writable_windows}
use Rattle.td_wal.proofs.appending.record_of.Goals as goal

pub with_body-requires-clause-body : goal.with_body-requires-clause-body
with_body-requires-clause-body c = text_body c.args.item.now.body c.in-Text.text c.as_slice.result.now c.in-Text.is c.as_slice.ensures

pub with_body-requires-clause-size : goal.with_body-requires-clause-size
with_body-requires-clause-size c = size_of c.args.item.now c.as_slice.result.now c.requires (text_body c.args.item.now.body c.in-Text.text c.as_slice.result.now c.in-Text.is c.as_slice.ensures)

pub step_bytes-requires : goal.step_bytes-requires
step_bytes-requires c = writable_windows c.args.item.now c.in-Step.stream c.in-Step.upto c.in-Step.moment c.in-Step.delta c.requires c.in-Step.is

pub with_body-requires-in-Step-clause-size : goal.with_body-requires-in-Step-clause-size
with_body-requires-in-Step-clause-size c =
    size_of c.args.item.now c.as_slice-in-Step.result.now c.requires (c.as_slice-in-Step.ensures ∙ c.in_ok-step-in-Step.ensures ∙ sym (ap body_bytes c.in-Step.is))
