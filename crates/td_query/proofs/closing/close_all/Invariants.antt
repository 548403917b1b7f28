use Rattle.std.proofs.Common.{◌≡◌, ◌≤◌, List, filter}
use Rattle.std.specs.List.{flat_map}
use Rattle.td_limits.specs.declared.limits.TheConstants.{LAST_TIMESTAMP}
use Rattle.td_query.specs.Shown.{windows_in}
use Rattle.td_query.specs.Summed.{AllGroups}
use Rattle.td_query.specs.Totals.{AreSummed}
use Rattle.td_verdict.specs.Answered.{window_rows}
use Rattle.td_verdict.specs.Groups.{Grouped, is_shown}
use Rattle.td_query.proofs.closing.close_all.Given as goal

abbrev pub invariant-groups : goal.invariant-groups
invariant-groups l =
    (gs : List Grouped) → AllGroups (λ k. k.ts ≤ LAST_TIMESTAMP) gs → AreSummed l.asked.frame l.asked.places.now l.yielded gs
    → flat_map windows_in l.groups ≡ flat_map (window_rows l.asked.plan.now.schema.columns l.asked.plan.now.query) (filter (is_shown l.one) gs)
