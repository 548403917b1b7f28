use Rattle.std.proofs.Common.{map, ap, ◌∙◌}
use Rattle.td_verdict.specs.Answered.{window_row}
use Rattle.td_query.proofs.EndWindows.{entries_held, windows_are}
use Rattle.td_query.proofs.closing.interval_rows.Goals as goal

pub returns : goal.returns
returns c = λ len offset slide held numbers late sums.
    let asked = c.args.asked.now in
    let plan = asked.plan.now in
    c.in_ok-rows.ensures held (entries_held asked.frame asked.places.now c.args.windows held sums late c.len-room.ensures.ordered)
    ∙ ap (map (window_row plan.schema.columns plan.query c.args.part.now)) (windows_are asked.frame asked.places.now c.args.windows held sums late len offset slide numbers c.len-room.ensures.ordered)
