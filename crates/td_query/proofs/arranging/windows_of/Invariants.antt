use Rattle.std.proofs.Common.{◌≡◌, take}
use Rattle.std.specs.List.{flat_map}
use Rattle.td_query.specs.Shown.{all_shown, windows_in}
use Rattle.td_query.proofs.arranging.windows_of.Given as goal

abbrev pub invariant-groups : goal.invariant-groups
invariant-groups l = all_shown l.all.items ≡ flat_map windows_in (take l.group-index l.groups)
