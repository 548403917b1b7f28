use Rattle.std.proofs.Common.{◌≡◌, ◌≤◌, ◌-◌, length, take, drop}
use Rattle.std.specs.Prelude.{IfSome}
use Rattle.td_fileio.specs.Reading.{IsSameFile}
use Rattle.td_fileio.proofs.reading.read_exact_at.Given as goal

abbrev pub invariant-loop-done : goal.invariant-loop-done
invariant-loop-done g l = record {
  read : IfSome (g.R.FileBytes.bytes l.fn.file) (λ all. take l.done l.buf ≡ take l.done (drop l.at all));
  file : IsSameFile (g.R.FileBytes.bytes l.fn.file) (g.R.FileBytes.bytes l.file) (g.R.FileBytes.file l.fn.file) (g.R.FileBytes.file l.file) (g.R.FileBytes.size l.fn.file) (g.R.FileBytes.size l.file);
  calm : g.R.FileBytes.count l.file ≡ g.R.FileBytes.count l.fn.file;
  within : l.done ≤ length l.buf;
  same : length l.buf ≡ length l.fn.buf;
}

abbrev pub decreases-loop-done : goal.decreases-loop-done
decreases-loop-done g l = length l.buf - l.done
