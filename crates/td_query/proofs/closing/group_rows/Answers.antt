use Rattle.std.proofs.Common.{sym, ◌∙◌}
use Rattle.td_query.specs.Framed.{frame_numbers}
use Rattle.td_query.proofs.GroupRows.{whole_sum_is, whole_shown, interval_shown}
use Rattle.td_query.proofs.closing.group_rows.Goals as goal

pub returns-then-is_whole : goal.returns-then-is_whole
returns-then-is_whole c = λ g part late sums.
    let asked = c.args.asked.now in
    let plan = asked.plan.now in
    let whole = sym c.is_whole.ensures ∙ c.if-is_whole.true in
    whole_shown plan.schema.columns plan.query c.args.one c.args.part.now g c.in_ok-rows.rows whole part
    (c.in_ok-rows.ensures g.rows (whole_sum_is asked.frame asked.places.now c.args.windows g.rows plan.query.window whole c.requires.framed late sums))

pub returns : goal.returns
returns c = λ g part late sums.
    let asked = c.args.asked.now in
    let plan = asked.plan.now in
    interval_shown plan.schema.columns plan.query (frame_numbers asked.frame) c.args.one c.args.part.now g c.in_ok-rows-2.rows (sym c.is_whole.ensures ∙ c.if-is_whole.false) c.requires.one part c.requires.framed
    (λ len offset slide numbers. c.in_ok-rows-2.ensures len offset slide g.rows numbers late sums)
