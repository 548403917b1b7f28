use Rattle.std.proofs.Common.{◌≡◌, ◌+◌, ◌-◌, ◌^◌, ◌≤◌, map, drop}
use Rattle.std.specs.Prelude.{sum}
use Rattle.td_fileset.specs.Opened.{Readers, shown_count}
use Rattle.td_fileset.proofs.layers.faults_of.Given as goal

abbrev pub invariant-loop-set : goal.invariant-loop-set
invariant-loop-set g l = record {
  all : shown_count (l.faults + sum (map (λ (r : Readers). r.failed) (drop l.set-index l.sets))) ≡ shown_count (sum (map (λ (r : Readers). r.failed) l.sets));
  few : l.faults ≤ 2 ^ 64 - 1;
}
