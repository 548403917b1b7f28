use Rattle.std.proofs.Common.{cond, sym, ap, ◌∙◌}
use Rattle.std.specs.BTreeMap.{insert_entry}
use Rattle.td_verdict.specs.Answers.{Found, time_cmp}
use Rattle.td_answer.specs.Lines.{line_cells}
use Rattle.td_answer.specs.Picks.{key_of, keyed}
use Rattle.td_answer.proofs.Keyed.{keyed_insert}
use Rattle.td_answer.proofs.picks.put_held.Goals as goal

pub returns-in_ok-insert : goal.returns-in_ok-insert
returns-in_ok-insert c =
    let columns = c.args.columns.now in
    let found : Found = keyed columns c.args.picked.now.entries in
    ap (keyed columns) c.in_ok-insert.ensures.entries
    ∙ keyed_insert columns c.args.key c.args.line c.args.picked.now.entries
    ∙ ap (λ b. cond b (insert_entry time_cmp found (key_of c.args.key) (line_cells columns c.args.line)) found) (sym c.if-all_hold.true ∙ c.all_hold.ensures)
