use Rattle.std.proofs.Common.{◌<◌, All}
use Rattle.std.specs.Map.{keys_of}
use Rattle.td_value_cases.proofs.tags.fill.Given as goal

abbrev pub invariant-loop-table : goal.invariant-loop-table
invariant-loop-table l = All (λ k. k < l.table) (keys_of l.index.subtables)
