use Rattle.std.proofs.Common.{◌≡◌, ◌+◌, ◌-◌, ◌*◌, ◌^◌, ◌<◌, ◌≤◌, length, drop}
use Rattle.std.specs.Prelude.{IfSome}
use Rattle.td_limits.specs.declared.limits.TheConstants.{BLOCK_ROWS}
use Rattle.td_fileio.specs.Reading.{IsAhead, IsSameFile}
use Rattle.td_datafile.specs.Scanning.{want_of, bytes_left}
use Rattle.td_datafile.specs.Folding.{partial_rows, AreFound}
use Rattle.td_datafile.proofs.Folds.{Gathers}
use Rattle.td_datafile.proofs.folding.gather.Given as goal

abbrev pub invariant-loop-spot : goal.invariant-loop-spot
invariant-loop-spot g l = record {
  read : IfSome (g.F.FileBytes.bytes l.fn.file) (Gathers (want_of l.wanted) l.column l.fn.start l.entries l.all l.spot);
  found : AreFound l.entries l.all;
  rows : l.all.tally.rows ≤ BLOCK_ROWS * l.spot.next;
  count : l.all.tally.count ≤ BLOCK_ROWS * l.spot.next;
  steps : l.steps + partial_rows (want_of l.wanted) (drop l.spot.next l.entries) ≡ l.fn.steps + partial_rows (want_of l.wanted) l.entries;
  next : l.spot.next ≤ length l.entries;
  room : l.spot.place + bytes_left l.entries l.spot < 2 ^ 64;
  ahead : IsAhead (g.F.FileBytes.bytes l.file) l.ahead.from l.ahead.bytes;
  file : IsSameFile (g.F.FileBytes.bytes l.fn.file) (g.F.FileBytes.bytes l.file) (g.F.FileBytes.file l.fn.file) (g.F.FileBytes.file l.file) (g.F.FileBytes.size l.fn.file) (g.F.FileBytes.size l.file);
  calm : g.F.FileBytes.count l.file ≡ g.F.FileBytes.count l.fn.file;
}

abbrev pub decreases-loop-spot : goal.decreases-loop-spot
decreases-loop-spot g l = length l.entries - l.spot.next
