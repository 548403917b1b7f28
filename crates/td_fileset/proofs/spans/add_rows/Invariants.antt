use Rattle.std.proofs.Common.{◌≡◌, ◌+◌, ◌≤◌, length}
use Rattle.std.specs.List.{AllByRecursion}
use Rattle.td_layer.specs.Columns.{AreColumnValues}
use Rattle.td_fileset.specs.Merged.{faults_of, rows_left, StaysSame}
use Rattle.td_fileset.specs.Opened.{IsRead}
use Rattle.td_fileset.proofs.Reading.{TookMost}
use Rattle.td_fileset.proofs.spans.add_rows.Given as goal

abbrev pub invariant-loop : goal.invariant-loop
invariant-loop g l = record {
  read : IsRead l.fn.found l.found (rows_left l.fn.merging) (rows_left l.merging);
  values : AllByRecursion (λ row. AreColumnValues row.1.values) l.found;
  same : StaysSame l.fn.merging l.merging;
  counts : faults_of l.merging.counts ≡ faults_of l.fn.merging.counts;
  least : l.fn.steps + (length l.found + l.merging.waiting) ≤ l.steps + (length l.fn.found + l.fn.merging.waiting);
  most : TookMost l.fn.merging l.merging l.fn.steps l.steps;
}
