use Rattle.std.proofs.Common.{sym, ◌∙◌}
use Rattle.td_answer.proofs.Sole.{sole_by}
use Rattle.td_answer.proofs.firsts.sole_table.Goals as goal

pub returns-then-len-eq1 : goal.returns-then-len-eq1
returns-then-len-eq1 c =
    let plan = c.args.plan.now in
    sole_by plan.tables plan.names plan.tags c.table_at.result (sym c.len.ensures ∙ c.if-len-eq1.true) c.table_at.ensures
