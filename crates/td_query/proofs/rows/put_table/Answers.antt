use Rattle.std.proofs.Common.{sym, ap, ◌∙◌}
use Rattle.td_verdict.specs.Groups.{put_rows}
use Rattle.td_query.specs.Read.{keyed_rows, listed, wanted_from}
use Rattle.td_query.proofs.Keyed.{put_last}
use Rattle.td_query.proofs.rows.put_table.Goals as goal

pub rows-preserved : goal.rows-preserved
rows-preserved c =
    let plan = c.args.plan.now in
    let t = listed c.args.table.now in
    put_last plan.schema.columns c.args.comparisons.now plan.lo plan.hi t (keyed_rows c.rows.rows.entries) c.pop.new.self c.in-Some.row (keyed_rows c.put_wanted.new.rows.entries) c.in_ok-put_wanted.ensures
    ∙ ap (λ left. put_rows (keyed_rows c.rows.rows.entries) (wanted_from plan.schema.columns c.args.comparisons.now plan.lo plan.hi t left)) (sym c.in-Some.ensures)
    ∙ c.rows.invariant
