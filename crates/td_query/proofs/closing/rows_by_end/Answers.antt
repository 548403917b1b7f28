use Rattle.std.proofs.Common.{ℕ, ◌∙◌, filter}
use Rattle.td_query.specs.Sums.{Sum}
use Rattle.td_query.specs.Closed.{IsHeld}
use Rattle.td_query.specs.Summed.{takes}
use Rattle.td_verdict.specs.Answered.{window_row}
use Rattle.td_query.proofs.EndWindows.{all_parts, by_end_more}
use Rattle.td_query.proofs.closing.rows_by_end.Goals as goal

pub windows-preserved : goal.windows-preserved
windows-preserved c = λ held all.
    let asked = c.args.asked.now in
    let f = asked.frame in
    let plan = asked.plan.now in
    let e : ℕ × Sum = (c.in-Some.end, c.in-Some.sum) in
    let parts = all_parts (IsHeld f asked.places.now held) c.windows.yielded e all in
    c.in_ok-add_window.ensures (filter (takes f.len c.in-Some.end) held) parts.1.sum parts.1.in_time
    ∙ by_end_more (window_row plan.schema.columns plan.query c.args.part.now) f held c.windows.yielded e c.windows.rows (c.windows.invariant held parts.0)
