use Rattle.std.proofs.Common.{length}
use Rattle.std.specs.List.{flat_map, AllByRecursion}
use Rattle.std.specs.Ordering.{nat_cmp}
use Rattle.std.specs.Io.KnownBytes.{append_known}
use Rattle.td_layer.specs.Keys.{RisesBy}
use Rattle.td_block.specs.Rows.{IsRowOf}
use Rattle.td_fileio.specs.Lists.{table_blocks, blocks_of_rows}
use Rattle.td_fileio.proofs.WriteLaws.{AddsSoFar}
use Rattle.td_datafile.specs.Index.{bytes_of_block}
use Rattle.td_datafile.proofs.IndexLaws.{IndexSoFar}
use Rattle.td_datafile.proofs.writing.put_table.Given as goal

abbrev pub invariant-loop-left : goal.invariant-loop-left
invariant-loop-left g l = record {
  adds : AddsSoFar (append_known (g.W.Writer.written l.fn.out) l.fn.waiting.items) (append_known (g.W.Writer.written l.out) l.waiting.items) (g.W.Writer.name l.fn.out) (g.W.Writer.name l.out) (g.W.Writer.count l.fn.out) (g.W.Writer.count l.out)
      (flat_map bytes_of_block (blocks_of_rows l.table.table l.table.kinds l.left)) (flat_map bytes_of_block (table_blocks l.table));
  index : IndexSoFar l.fn.index l.index l.place l.next (blocks_of_rows l.table.table l.table.kinds l.left) (table_blocks l.table);
  rising : RisesBy nat_cmp l.left;
  rows_are : AllByRecursion (IsRowOf l.table.kinds) l.left;
}

abbrev pub decreases-loop-left : goal.decreases-loop-left
decreases-loop-left g l = length l.left
