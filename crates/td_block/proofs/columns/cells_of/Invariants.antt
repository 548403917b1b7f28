use Rattle.std.proofs.Common.{◌≡◌, ◌-◌, [], length}
use Rattle.td_codec.specs.Lists.{items_read}
use Rattle.td_codec.proofs.Loop.{with_front}
use Rattle.td_block.specs.Columns.{cell_items}
use Rattle.td_block.proofs.columns.cells_of.Given as goal

abbrev pub invariant-loop-row : goal.invariant-loop-row
invariant-loop-row l = record {
  at : length l.cells ≡ l.row;
  so_far : with_front l.cells (items_read (cell_items l.kind l.names l.values) l.cells (l.rows - l.row) l.rest) ≡ items_read (cell_items l.kind l.names l.values) [] l.rows l.bytes;
}
