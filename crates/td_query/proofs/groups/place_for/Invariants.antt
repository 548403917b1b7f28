use Rattle.std.proofs.Common.{◌-◌, ◌≤◌, length}
use Rattle.td_query.specs.Read.{parts_of}
use Rattle.td_query.proofs.Grouping.{AreLess}
use Rattle.td_query.proofs.groups.place_for.Given as goal

abbrev pub invariant-groups : goal.invariant-groups
invariant-groups g l = AreLess l.part (parts_of l.groups) l.at × (l.at ≤ length l.groups)

abbrev pub decreases-groups : goal.decreases-groups
decreases-groups g l = length l.groups - l.at
