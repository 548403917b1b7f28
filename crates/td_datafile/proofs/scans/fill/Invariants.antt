use Rattle.std.proofs.Common.{◌≡◌, ℕ, ◌+◌, ◌-◌, ◌^◌, ◌<◌, length}
use Rattle.std.specs.Prelude.{IfSome}
use Rattle.std.specs.List.{AllByRecursion}
use Rattle.td_layer.specs.declared.parts.Partial.{Partial}
use Rattle.td_layer.specs.Columns.{AreColumnCells}
use Rattle.td_fileio.specs.Reading.{IsAhead, IsSameFile}
use Rattle.td_datafile.specs.Scanning.{want_of, bytes_left, Keeps}
use Rattle.td_datafile.proofs.scans.fill.Given as goal

abbrev pub invariant-loop-alloc : goal.invariant-loop-alloc
invariant-loop-alloc g l = record {
  keeps : IfSome (g.F.FileBytes.bytes l.fn.file) (Keeps (want_of l.wanted) l.entries l.fn.rows l.rows l.fn.spot l.spot);
  values : AllByRecursion (λ (row : ℕ × Partial). AreColumnCells row.1.cells) l.rows;
  room : l.spot.place + bytes_left l.entries l.spot < 2 ^ 64;
  ahead : IsAhead (g.F.FileBytes.bytes l.file) l.ahead.from l.ahead.bytes;
  file : IsSameFile (g.F.FileBytes.bytes l.fn.file) (g.F.FileBytes.bytes l.file) (g.F.FileBytes.file l.fn.file) (g.F.FileBytes.file l.file) (g.F.FileBytes.size l.fn.file) (g.F.FileBytes.size l.file);
  calm : g.F.FileBytes.count l.file ≡ g.F.FileBytes.count l.fn.file;
}

abbrev pub decreases-loop-alloc : goal.decreases-loop-alloc
decreases-loop-alloc g l = length l.entries - l.spot.next
