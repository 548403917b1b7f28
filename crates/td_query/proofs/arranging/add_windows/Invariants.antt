use Rattle.std.proofs.Common.{◌≡◌, ◌++◌, take}
use Rattle.td_query.specs.Shown.{all_shown}
use Rattle.td_query.proofs.arranging.add_windows.Given as goal

abbrev pub invariant-windows : goal.invariant-windows
invariant-windows l = all_shown l.all.items ≡ all_shown l.fn.all.items ++ take l.row-index l.windows
