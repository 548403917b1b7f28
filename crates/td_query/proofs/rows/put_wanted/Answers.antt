use Rattle.std.proofs.Common.{cond, [], ◌∷◌, sym, ap, ◌∙◌}
use Rattle.td_verdict.specs.Groups.{put_rows}
use Rattle.td_query.specs.Planned.{keyed}
use Rattle.td_query.specs.Read.{keyed_rows}
use Rattle.td_query.proofs.Keyed.{keyed_insert}
use Rattle.td_query.proofs.rows.put_wanted.Goals as goal

pub returns-in_ok-insert : goal.returns-in_ok-insert
returns-in_ok-insert c =
    let rows = keyed_rows c.args.rows.now.entries in
    let one = keyed c.args.table.now.number c.args.found in
    ap keyed_rows c.in_ok-insert.ensures.entries
    ∙ keyed_insert _ _ c.args.rows.now.entries
    ∙ ap (λ b. put_rows rows (cond b (one ∷ []) [])) (sym c.if-is_wanted.true ∙ c.is_wanted.ensures)
