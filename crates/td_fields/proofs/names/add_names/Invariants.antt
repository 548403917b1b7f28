use Rattle.std.proofs.Common.{◌≡◌, ◌++◌, drop}
use Rattle.td_verdict.specs.Names.{names_of}
use Rattle.td_fields.proofs.names.add_names.Given as goal

abbrev pub invariant-loop-column : goal.invariant-loop-column
invariant-loop-column l = l.fn.names ++ names_of l.columns ≡ l.names ++ names_of (drop l.column-index l.columns)
