use Rattle.std.proofs.Common.{◌≡◌, ◌+◌, ◌-◌, ◌^◌, ◌≤◌, map, drop}
use Rattle.std.specs.Prelude.{sum}
use Rattle.td_fileset.specs.Opened.{shown_count}
use Rattle.td_fileset.proofs.set_readers.faults_of.Given as goal

abbrev pub invariant-loop-reader : goal.invariant-loop-reader
invariant-loop-reader g l = record {
  all : shown_count (l.faults + sum (map g.R.FileBytes.count (drop l.reader-index l.readers))) ≡ shown_count (sum (map g.R.FileBytes.count l.readers));
  few : l.faults ≤ 2 ^ 64 - 1;
}
