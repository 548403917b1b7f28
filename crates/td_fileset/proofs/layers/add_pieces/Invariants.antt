use Rattle.std.proofs.Common.{◌≡◌, ◌+◌, ◌-◌, ◌≤◌, map, length}
use Rattle.std.specs.Prelude.{sum}
use Rattle.std.specs.List.{AllByRecursion}
use Rattle.td_layer.specs.Columns.{AreColumnValues}
use Rattle.td_fileset.specs.Opened.{Readers, span_of, shown_count}
use Rattle.td_fileset.proofs.Advanced.{AreLeft, StepsLeft}
use Rattle.td_fileset.proofs.layers.add_pieces.Given as goal

abbrev pub invariant-pieces : goal.invariant-pieces
invariant-pieces g l = record {
  files : map (λ (r : Readers). r.files) l.sets ≡ map (λ (r : Readers). r.files) l.fn.sets;
  values : AllByRecursion (λ row. AreColumnValues row.1.values) l.found;
  found : AreLeft l.memtables (map (λ (r : Readers). r.files) l.fn.sets) (span_of l.span) l.fn.found l.found l.from;
  most : StepsLeft l.memtables (map (λ (r : Readers). r.files) l.fn.sets) (span_of l.span) l.fn.steps l.steps l.from;
  least : l.fn.steps + length l.found ≤ l.steps + length l.fn.found;
  counts : shown_count (sum (map (λ (r : Readers). r.failed) l.sets)) ≡ shown_count (sum (map (λ (r : Readers). r.failed) l.fn.sets));
}

abbrev pub decreases-pieces : goal.decreases-pieces
decreases-pieces g l = l.span.hi + 1 - l.from
