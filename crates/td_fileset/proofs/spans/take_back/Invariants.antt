use Rattle.std.proofs.Common.{◌≡◌, length}
use Rattle.td_fileset.specs.Opened.{all_files, all_failed, HasRoom}
use Rattle.td_fileset.proofs.spans.take_back.Given as goal

abbrev pub invariant-loop-scan : goal.invariant-loop-scan
invariant-loop-scan g l = record {
  room : HasRoom l.merging.reads l.set;
  files : all_files l.merging l.set ≡ all_files l.initial.merging l.fn.set;
  failed : all_failed l.merging l.set ≡ all_failed l.initial.merging l.fn.set;
}

abbrev pub decreases-loop-scan : goal.decreases-loop-scan
decreases-loop-scan g l = length l.merging.reads
