use Rattle.std.proofs.Common.{length}
use Rattle.std.specs.List.{flat_map, AllByRecursion}
use Rattle.std.specs.Io.KnownBytes.{append_known}
use Rattle.td_fileio.specs.Lists.{all_blocks, AreTableRows}
use Rattle.td_fileio.proofs.WriteLaws.{AddsSoFar}
use Rattle.td_datafile.specs.Index.{bytes_of_block}
use Rattle.td_datafile.proofs.IndexLaws.{IndexSoFar}
use Rattle.td_datafile.proofs.writing.put_tables.Given as goal

abbrev pub invariant-loop-table : goal.invariant-loop-table
invariant-loop-table g l = record {
  adds : AddsSoFar (append_known (g.W.Writer.written l.fn.out) l.fn.waiting.items) (append_known (g.W.Writer.written l.out) l.waiting.items) (g.W.Writer.name l.fn.out) (g.W.Writer.name l.out) (g.W.Writer.count l.fn.out) (g.W.Writer.count l.out)
      (flat_map bytes_of_block (all_blocks l.left)) (flat_map bytes_of_block (all_blocks l.tables));
  index : IndexSoFar l.fn.index l.index l.place l.next (all_blocks l.left) (all_blocks l.tables);
  each : AllByRecursion (AreTableRows l.range) l.left;
}

abbrev pub decreases-loop-table : goal.decreases-loop-table
decreases-loop-table g l = length l.left
