use Rattle.std.proofs.Common.{take, drop, ap, ◌∙◌, arith}
use Rattle.td_verdict.specs.Answers.{cut}
use Rattle.std.specs.List.{flat_map}
use Rattle.td_verdict.specs.Arranged.{arranged, cells_shown}
use Rattle.td_query.specs.Shown.{all_shown, windows_in}
use Rattle.td_query.proofs.Few.{few_windows}
use Rattle.td_query.proofs.Starts.{part_shown}
use Rattle.td_query.proofs.arranging.arrange.Goals as goal

pub returns-clause-part : goal.returns-clause-part
returns-clause-part c =
    let q = c.args.plan.now.query in
    let rows = c.in_ok-rows-2.rows.items in
    c.in_ok-all.ensures
    ∙ ap (λ l. cells_shown (all_shown l)) (c.part-shown.ensures ∙ ap (λ l. take c.args.count (drop c.args.skip (cut q l))) c.as_slice-2.ensures.value)
    ∙ part_shown q c.args.skip c.args.count rows
    ∙ ap (λ l. take c.args.count (drop c.args.skip (cells_shown (cut q l)))) (c.in_ok-rows-2.ensures ∙ ap (arranged q.order) (c.in_ok-rows.ensures ∙ ap (flat_map windows_in) c.as_slice.ensures))

pub returns-clause-few : goal.returns-clause-few
returns-clause-few c =
    let q = c.args.plan.now.query in
    few_windows q c.in_ok-rows-2.rows.items (flat_map windows_in c.args.groups.now)
    (c.in_ok-rows-2.ensures ∙ ap (arranged q.order) (c.in_ok-rows.ensures ∙ ap (flat_map windows_in) c.as_slice.ensures)) (omega arith)
