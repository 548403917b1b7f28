use Rattle.std.proofs.Common.{◌≡◌, take}
use Rattle.std.specs.List.{AllByRecursion}
use Rattle.td_printed.specs.Names.{IsCountedEntry}
use Rattle.td_top.proofs.lines.copied_lines.Given as goal

abbrev pub invariant-loop-line : goal.invariant-loop-line
invariant-loop-line l = record { copy : l.all ≡ take l.line-index l.lines; counted : AllByRecursion IsCountedEntry l.all }
