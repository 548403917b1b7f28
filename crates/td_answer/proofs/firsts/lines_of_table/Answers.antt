use Rattle.std.proofs.Common.{sym, ap, ◌∙◌}
use Rattle.td_verdict.specs.Answers.{ordered}
use Rattle.td_answer.specs.declared.cells.Line.{Line}
use Rattle.td_answer.specs.Firsts.{cells_of_lines}
use Rattle.td_answer.specs.Lines.{line_cells}
use Rattle.td_answer.proofs.Orders.{ordered-map}
use Rattle.td_answer.proofs.firsts.lines_of_table.Goals as goal

pub returns-clause-lines : goal.returns-clause-lines
returns-clause-lines g c =
    let columns = c.args.plan.now.schema.columns in
    let order = c.args.plan.now.query.order in
    ap (cells_of_lines columns) c.in_order.ensures
    ∙ sym (ordered-map (λ (l : Line). line_cells columns l) order c.in_ok-lines.lines.items)
    ∙ ap (ordered order) c.in_ok-lines.ensures.lines
