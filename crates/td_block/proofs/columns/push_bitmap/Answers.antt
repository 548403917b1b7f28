use Rattle.std.proofs.Common.{◌*◌, take, ap, ◌∙◌}
use Rattle.std.proofs.lemmas.List.{take_rest}
use Rattle.td_block.specs.Columns.{bit_of}
use Rattle.td_block.proofs.BlockLaws.{Cells}
use Rattle.td_block.proofs.Written.{bitmap_goes_on}
use Rattle.td_block.proofs.columns.push_bitmap.Goals as goal

pub loop-at-preserved : goal.loop-at-preserved
loop-at-preserved c =
    bitmap_goes_on (bit_of c.args.bit) c.args.cells.now c.first_eight.result.now c.args.out.now.items c.loop-at.out.items c.push.new.self.items c.loop-at.at c.packed-byte.result c.in_ok-push.ensures.items c.packed-byte.ensures.packed
    (c.first_eight.ensures ∙ ap (λ (l : Cells). take 8 l) (take_rest c.args.cells.now (8 * c.loop-at.at))) c.loop-at.invariant
