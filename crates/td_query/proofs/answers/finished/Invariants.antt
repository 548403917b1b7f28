use Rattle.std.proofs.Common.{◌≡◌, ◌++◌, All, map, reverse, length}
use Rattle.td_verdict.specs.Answered.{window_rows}
use Rattle.td_query.specs.Gathered.{grouped_of, IsReady}
use Rattle.td_query.specs.Shown.{windows_in}
use Rattle.td_query.specs.declared.gathering.Group.{Group}
use Rattle.td_query.proofs.answers.finished.Given as goal

-- the windows of the groups that are left, and then those that were given, are all
abbrev pub invariant-groups : goal.invariant-groups
invariant-groups l =
    (map (λ (g : Group). window_rows l.plan.schema.columns l.plan.query (grouped_of g)) l.left ++ map windows_in (reverse l.all.items) ≡ map (λ (g : Group). window_rows l.plan.schema.columns l.plan.query (grouped_of g)) l.fn.groups)
    × All IsReady l.left

abbrev pub decreases-groups : goal.decreases-groups
decreases-groups l = length l.left
