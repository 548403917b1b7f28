use Rattle.std.proofs.Common.{◌≡◌, drop, Option, Some, None}
use Rattle.std.specs.Prelude.{IfSome}
use Rattle.td_layer.specs.declared.values.Row.{Row}
use Rattle.td_layer.specs.Columns.{AreColumnValues}
use Rattle.td_fileset.specs.Merged.{all_acted}
use Rattle.td_fileset.proofs.merging.row_of.Given as goal

abbrev pub invariant-loop-source : goal.invariant-loop-source
invariant-loop-source g l = record {
  acted : (r : Option Row) → all_acted l.key l.sources None ≡ Some r → all_acted l.key (drop l.source-index l.sources) l.row ≡ Some r;
  values : IfSome l.row (λ r. AreColumnValues r.values);
}
