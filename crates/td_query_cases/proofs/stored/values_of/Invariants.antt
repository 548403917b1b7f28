use Rattle.td_layer.specs.Columns.{AreColumnValues}
use Rattle.td_query_cases.proofs.stored.values_of.Given as goal

abbrev pub invariant-values : goal.invariant-values
invariant-values l = AreColumnValues l.values
