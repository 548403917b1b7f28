use Rattle.std.proofs.Common.{◌≡◌, ◌++◌, drop}
use Rattle.std.specs.List.{flat_map}
use Rattle.td_model.specs.Text.{quoted_byte}
use Rattle.td_report.proofs.cells.push_quoted.Given as goal

-- what was written and what is left to write are all
abbrev pub invariant-loop-byte : goal.invariant-loop-byte
invariant-loop-byte l = l.out ++ flat_map quoted_byte (drop l.byte-index l.text) ≡ l.fn.out ++ flat_map quoted_byte l.text
