use Rattle.std.proofs.Common.{◌≡◌, map}
use Rattle.td_commit.proofs.Files.{AreFilesUpTo}
use Rattle.td_commit.proofs.writing.write_files.Given as goal

abbrev pub invariant-loop-i : goal.invariant-loop-i
invariant-loop-i g l = record {
  written : AreFilesUpTo l.fn.frozen l.i l.ranges (map g.W.Writer.written l.fn.files) (map g.W.Writer.written l.files);
  names : map g.W.Writer.name l.files ≡ map g.W.Writer.name l.fn.files;
  counts : map g.W.Writer.count l.files ≡ map g.W.Writer.count l.fn.files;
}
