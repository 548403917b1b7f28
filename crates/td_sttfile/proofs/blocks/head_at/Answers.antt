use Rattle.std.proofs.Common.{◌≤◌, length, ap, arith}
use Rattle.td_sttfile.proofs.blocks.head_at.Goals as goal

pub returns-clause-within : goal.returns-clause-within
returns-clause-within g c =
    let long : 14 ≤ length c.in_ok-part.part.items = omega (arith, c.in_ok-head.ensures.long, ap length c.as_slice.ensures.value) in
    omega (arith, long, c.in_ok-part.ensures.part.long, c.requires.size)
