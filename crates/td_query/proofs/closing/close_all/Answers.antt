use Rattle.std.proofs.Common.{◌≤◌, List, subst}
use Rattle.std.specs.List.{flat_map}
use Rattle.td_limits.specs.declared.limits.TheConstants.{LAST_TIMESTAMP}
use Rattle.td_query.specs.Shown.{windows_in}
use Rattle.td_query.specs.Summed.{AllKeys, AllGroups}
use Rattle.td_verdict.specs.Answered.{window_rows}
use Rattle.td_verdict.specs.Groups.{Grouped, is_shown}
use Rattle.td_query.proofs.EndWindows.{all_parts}
use Rattle.td_query.proofs.GroupRows.{parted, one_more}
use Rattle.td_query.proofs.closing.close_all.Goals as goal

pub groups-preserved : goal.groups-preserved
groups-preserved c = λ gs late summed.
    let asked = c.args.asked.now in
    let plan = asked.plan.now in
    let p = parted asked.frame asked.places.now c.groups.yielded c.in-Some.group gs summed in
    let lates = all_parts (λ (g : Grouped). AllKeys (λ k. k.ts ≤ LAST_TIMESTAMP) g.rows) p.before p.last (subst (λ (l : List Grouped). AllGroups (λ k. k.ts ≤ LAST_TIMESTAMP) l) p.are late) in
    one_more (window_rows plan.schema.columns plan.query) (is_shown c.args.one) gs p.before p.last (flat_map windows_in c.groups.groups) (flat_map windows_in c.add_group.new.groups) p.are
    (c.in_ok-add_group.ensures p.last lates.1 p.is) (c.groups.invariant p.before lates.0 p.summed)
