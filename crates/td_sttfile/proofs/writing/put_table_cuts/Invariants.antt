use Rattle.std.proofs.Common.{ℕ, length, map}
use Rattle.std.specs.List.{flat_map}
use Rattle.std.specs.Io.KnownBytes.{append_known}
use Rattle.td_fileio.proofs.WriteLaws.{AddsSoFar}
use Rattle.td_sttfile.specs.Written.{cut_bytes}
use Rattle.td_sttfile.proofs.writing.put_table_cuts.Given as goal

abbrev pub invariant-loop-cut : goal.invariant-loop-cut
invariant-loop-cut g l =
    AddsSoFar (append_known (g.W.Writer.written l.fn.out) l.fn.waiting.items) (append_known (g.W.Writer.written l.out) l.waiting.items) (g.W.Writer.name l.fn.out) (g.W.Writer.name l.out) (g.W.Writer.count l.fn.out) (g.W.Writer.count l.out)
    (flat_map cut_bytes (map (λ (c : ℕ × ℕ). record { table = l.table; lo = c.0; hi = c.1 }) l.left)) (flat_map cut_bytes (map (λ (c : ℕ × ℕ). record { table = l.table; lo = c.0; hi = c.1 }) l.cuts))

abbrev pub decreases-loop-cut : goal.decreases-loop-cut
decreases-loop-cut g l = length l.left
