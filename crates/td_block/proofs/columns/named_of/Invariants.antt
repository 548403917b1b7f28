use Rattle.td_block.specs.Bits.{bitmap_length}
use Rattle.td_block.specs.Columns.{named_bytes}
use Rattle.td_block.proofs.Loops.{ReadFront}
use Rattle.td_block.proofs.columns.named_of.Given as goal

abbrev pub invariant-loop-at : goal.invariant-loop-at
invariant-loop-at l = ReadFront (named_bytes l.rows) (bitmap_length l.rows) l.bytes l.rest l.at
