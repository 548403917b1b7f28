use Rattle.std.proofs.Common.{length}
use Rattle.td_block.proofs.bits.+packed.Given as goal

abbrev pub decreases-packed : goal.decreases-packed
decreases-packed l = length l.cells.now
