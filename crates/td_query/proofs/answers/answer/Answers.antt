use Rattle.std.proofs.Common.{◌≡◌, ◌<◌, ◌^◌, List, length, drop, take, sym, ◌∙◌}
use Rattle.td_layer.specs.declared.values.Cell.{Cell}
use Rattle.td_query.proofs.SameAnswers.{of_rows, of_groups}
use Rattle.td_query.proofs.answers.answer.Goals as goal

pub returns-then-is_row_query-clause-whole : goal.returns-then-is_row_query-clause-whole
returns-then-is_row_query-clause-whole g c = λ q s sound plan rows.
    of_rows (λ (l : List (List Cell)). c.in_ok-all.all ≡ take c.args.count (drop c.args.skip l)) q s sound c.args.plan.now (g.Q.Snapshot.rows c.args.snap.now) plan rows (sym c.is_row_query.ensures ∙ c.if-is_row_query.true) c.in_ok-all.ensures.part

pub returns-then-is_row_query-clause-few : goal.returns-then-is_row_query-clause-few
returns-then-is_row_query-clause-few g c = λ q s sound plan rows.
    of_rows (λ (l : List (List Cell)). length l < 2 ^ 63) q s sound c.args.plan.now (g.Q.Snapshot.rows c.args.snap.now) plan rows (sym c.is_row_query.ensures ∙ c.if-is_row_query.true) c.in_ok-all.ensures.few

pub returns-clause-whole : goal.returns-clause-whole
returns-clause-whole g c = λ q s sound plan rows.
    of_groups (λ (l : List (List Cell)). c.in_ok-all-2.all ≡ take c.args.count (drop c.args.skip l)) q s sound c.args.plan.now (g.Q.Snapshot.rows c.args.snap.now) plan rows (sym c.is_row_query.ensures ∙ c.if-is_row_query.false) c.in_ok-all-2.ensures.part

pub returns-clause-few : goal.returns-clause-few
returns-clause-few g c = λ q s sound plan rows.
    of_groups (λ (l : List (List Cell)). length l < 2 ^ 63) q s sound c.args.plan.now (g.Q.Snapshot.rows c.args.snap.now) plan rows (sym c.is_row_query.ensures ∙ c.if-is_row_query.false) c.in_ok-all-2.ensures.few
