use Rattle.std.proofs.Common.{◌≡◌}
use Rattle.td_fileset.specs.Merged.{merged, faults_of, rows_left, StaysSame, HasSteps}
use Rattle.td_fileset.proofs.merging.next_row.Given as goal

abbrev pub invariant-loop : goal.invariant-loop
invariant-loop g l = record {
  rows : rows_left (merged l.sources) ≡ rows_left (merged l.fn.sources);
  same : StaysSame (merged l.fn.sources) (merged l.sources);
  counts : faults_of (merged l.sources).counts ≡ faults_of (merged l.fn.sources).counts;
  steps : HasSteps (merged l.fn.sources) (merged l.sources) l.fn.steps l.steps 0;
}
