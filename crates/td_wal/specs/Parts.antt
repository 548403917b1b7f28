-- The parts of an item as the reader holds them.
use Rattle.td_wal.specs.declared.reading.ItemHead.{ItemHead as Head}
use Rattle.td_wal.specs.declared.reading.StepHead.{StepHead as Step}
use Rattle.td_model.specs.declared.windows.Delta.{Delta}
use Rattle.td_wal.specs.Items.{ItemHead, StepHead, StepBody}

abbrev pub head_parts : Head → ItemHead
head_parts h = (h.size, (h.version, (h.moment, (h.session, h.ordinal))))

abbrev pub step_head_parts : Step → StepHead
step_head_parts s = (s.stream, (s.upto, s.moment))

abbrev pub step_parts : Step × Delta → StepBody
step_parts p = (step_head_parts p.0, (p.1.removed, p.1.added))
