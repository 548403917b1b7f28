use Rattle.std.proofs.Common.{◌≡◌, ◌++◌, ◌*◌, map, take, drop}
use Rattle.std.specs.List.{range_with_len}
use Rattle.td_block.specs.Bits.{packed}
use Rattle.td_block.specs.Columns.{bit_of}
use Rattle.td_block.proofs.columns.push_bitmap.Given as goal

abbrev pub invariant-loop-at : goal.invariant-loop-at
invariant-loop-at l = l.out.items ≡ l.fn.out.items ++ map (λ k. packed (take 8 (drop (8 * k) (map (bit_of l.fn.bit) l.cells)))) (range_with_len 0 l.at)
