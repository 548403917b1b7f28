use Rattle.std.proofs.Common.{◌≡◌, map, filter, All}
use Rattle.td_verdict.specs.Groups.{is_shown}
use Rattle.td_query.specs.Gathered.{without_windows, IsInOrder}
use Rattle.td_query.specs.Read.{all_grouped}
use Rattle.td_query.proofs.gathering.shown_groups.Given as goal

abbrev pub invariant-groups : goal.invariant-groups
invariant-groups l = (l.groups ≡ map without_windows (filter (is_shown l.one) (all_grouped l.yielded))) × All IsInOrder l.groups
