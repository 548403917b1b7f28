use Rattle.std.proofs.Common.{◌≡◌, ◌+◌, ◌*◌, ◌^◌, ◌≤◌, take}
use Rattle.std.specs.List.{sum_by}
use Rattle.td_block.specs.Headers.{column_length}
use Rattle.td_block.proofs.header.block_length.Given as goal

abbrev pub invariant-loop-kind : goal.invariant-loop-kind
invariant-loop-kind l = record {
  so_far : l.size ≡ 14 + 16 * l.rows + sum_by (column_length l.rows) (take l.kind-index l.kinds);
  few : l.size ≤ 2 ^ 37 + 2 ^ 37 * l.kind-index;
}
