use Rattle.std.proofs.Common.{◌≡◌, ◌≤◌, ◌-◌, drop}
use Rattle.std.specs.Prelude.{IfSome}
use Rattle.td_fileio.specs.Reading.{IsAhead, IsSameFile}
use Rattle.td_sttfile.specs.Blocks.{columns_read}
use Rattle.td_sttfile.proofs.blocks.columns_at.Given as goal

abbrev pub invariant-loop : goal.invariant-loop
invariant-loop g l = record {
  within : l.place ≤ l.size;
  so_far : IfSome (g.F.FileBytes.bytes l.fn.file) (λ all. columns_read l.rows l.left (l.columns - l.counter) (drop l.place all) ≡ columns_read l.rows l.given l.columns (drop l.at all));
  ahead : IsAhead (g.F.FileBytes.bytes l.file) l.ahead.from l.ahead.bytes;
  file : IsSameFile (g.F.FileBytes.bytes l.fn.file) (g.F.FileBytes.bytes l.file) (g.F.FileBytes.file l.fn.file) (g.F.FileBytes.file l.file) (g.F.FileBytes.size l.fn.file) (g.F.FileBytes.size l.file);
  calm : g.F.FileBytes.count l.file ≡ g.F.FileBytes.count l.fn.file;
}
