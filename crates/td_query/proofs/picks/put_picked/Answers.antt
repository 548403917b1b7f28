use Rattle.std.proofs.Common.{cond, [], ◌∷◌, sym, ap, ◌∙◌}
use Rattle.td_verdict.specs.Answers.{put_in_time}
use Rattle.td_query.specs.Planned.{keyed}
use Rattle.td_query.specs.Picks.{found_rows, with_cells}
use Rattle.td_query.specs.Read.{listed}
use Rattle.td_query.proofs.Picking.{picked_insert}
use Rattle.td_query.proofs.picks.put_picked.Goals as goal

pub returns-in_ok-insert : goal.returns-in_ok-insert
returns-in_ok-insert c =
    let columns = c.args.plan.now.schema.columns in
    let rows = found_rows columns c.args.picked.now.entries in
    let one = keyed c.args.table.now.number c.args.found in
    ap (found_rows columns) c.in_ok-insert.ensures.entries
    ∙ picked_insert columns _ _ c.args.picked.now.entries
    ∙ ap (λ b. put_in_time rows (with_cells columns (listed c.args.table.now) (cond b (one ∷ []) []))) (sym c.if-is_wanted.true ∙ c.is_wanted.ensures)
