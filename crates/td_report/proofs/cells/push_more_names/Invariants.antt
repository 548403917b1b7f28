use Rattle.std.proofs.Common.{◌≡◌, ◌++◌, drop}
use Rattle.std.specs.List.{flat_map}
use Rattle.td_model.specs.Text.{more_name}
use Rattle.td_report.proofs.cells.push_more_names.Given as goal

-- what was written and what is left to write are all
abbrev pub invariant-loop-name : goal.invariant-loop-name
invariant-loop-name l = l.out ++ flat_map more_name (drop l.name-index l.names) ≡ l.fn.out ++ flat_map more_name l.names
