use Rattle.std.proofs.Common.{length, ap, arith}
use Rattle.td_datafile.proofs.blocks.own_block.Goals as goal

pub block_in-requires : goal.block_in-requires
block_in-requires g c = omega (arith, ap length c.as_slice.ensures.value, c.in_ok-part.ensures.place)

pub rows_in-requires-clause-within : goal.rows_in-requires-clause-within
rows_in-requires-clause-within g c = omega (arith, ap length c.as_slice.ensures.value, c.in_ok-part.ensures.place, c.in_ok-block.ensures.within)
