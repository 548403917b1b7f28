use Rattle.std.proofs.Common.{length}
use Rattle.std.specs.List.{flat_map}
use Rattle.std.specs.Io.KnownBytes.{append_known}
use Rattle.td_fileio.proofs.WriteLaws.{AddsSoFar}
use Rattle.td_sttfile.specs.Written.{cut_bytes, all_cuts}
use Rattle.td_sttfile.proofs.writing.put_cuts.Given as goal

abbrev pub invariant-loop-table : goal.invariant-loop-table
invariant-loop-table g l =
    AddsSoFar (append_known (g.W.Writer.written l.fn.out) l.fn.waiting.items) (append_known (g.W.Writer.written l.out) l.waiting.items) (g.W.Writer.name l.fn.out) (g.W.Writer.name l.out) (g.W.Writer.count l.fn.out) (g.W.Writer.count l.out)
    (flat_map cut_bytes (all_cuts l.left)) (flat_map cut_bytes (all_cuts l.tables))

abbrev pub decreases-loop-table : goal.decreases-loop-table
decreases-loop-table g l = length l.left
