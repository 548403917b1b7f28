use Rattle.std.proofs.Common.{◌≡◌, ◌++◌, drop}
use Rattle.std.specs.List.{filter_map}
use Rattle.td_verdict.specs.Names.{column_named}
use Rattle.td_bind.proofs.insert.chosen.Given as goal

abbrev pub invariant-loop-name : goal.invariant-loop-name
invariant-loop-name l = filter_map (column_named l.columns) l.names ≡ l.places ++ filter_map (column_named l.columns) (drop l.name-index l.names)
