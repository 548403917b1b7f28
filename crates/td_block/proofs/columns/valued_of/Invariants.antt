use Rattle.td_block.specs.Bits.{bitmap_length}
use Rattle.td_block.specs.Columns.{valued_bytes}
use Rattle.td_block.proofs.Loops.{ReadFront}
use Rattle.td_block.proofs.columns.valued_of.Given as goal

abbrev pub invariant-loop-at : goal.invariant-loop-at
invariant-loop-at l = ReadFront (valued_bytes l.names) (bitmap_length l.rows) l.bytes l.rest l.at
