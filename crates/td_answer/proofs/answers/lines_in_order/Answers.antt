use Rattle.std.proofs.Common.{◌≡◌, ◌<◌, ◌≤◌, ◌^◌, List, [], ◌∷◌, filter, map, length, drop, take, sym, ap, subst, ◌∙◌, arith}
use Rattle.std.specs.List.{flat_map}
use Rattle.std.proofs.lemmas.List.{append-nil, length-map}
use Rattle.td_layer.specs.Keys.{InKeyOrder}
use Rattle.td_layer.specs.declared.values.Cell.{Cell}
use Rattle.td_layer.specs.declared.values.Key.{Key}
use Rattle.td_layer.specs.declared.values.Row.{Row}
use Rattle.td_model.specs.declared.plan.Plan.{Plan}
use Rattle.td_model.specs.State.{Rows, is_cut}
use Rattle.td_verdict.specs.declared.comparison.Comparison.{Comparison}
use Rattle.td_verdict.specs.Answers.{Found, cut, ordered, put_in_time}
use Rattle.td_verdict.specs.Fields.{all_hold}
use Rattle.td_answer.specs.declared.cells.Line.{Line}
use Rattle.td_answer.specs.Firsts.{cells_of_lines, cells_found}
use Rattle.td_answer.specs.Picks.{Listed, listed, tables_of, row_found, table_found, plan_found}
use Rattle.td_answer.proofs.Orders.{part_keyed, part_of_table, few_picked}
use Rattle.td_answer.proofs.Sole.{found_in_time, few_kept}
use Rattle.td_answer.proofs.answers.lines_in_order.Goals as goal

-- what is picked of a plan of one table is what is picked of that table, in its order
picked_of_one : (p : Plan) (ps : List Comparison) (rows : Rows) (t : Listed) → tables_of p ≡ t ∷ [] → InKeyOrder (filter (λ (e : Key × Row). is_cut t.number p.lo p.hi e.0) rows) → plan_found p ps rows ≡ table_found p ps rows t
picked_of_one p ps rows t one order =
    ap (λ ts. put_in_time [] (flat_map (table_found p ps rows) ts)) one
    ∙ ap (put_in_time []) (append-nil (table_found p ps rows t))
    ∙ found_in_time p.schema.columns ps t p.lo p.hi rows order

few_of_one : (p : Plan) (ps : List Comparison) (rows : Rows) (t : Listed) → length (table_found p ps rows t) ≤ length rows
few_of_one p ps rows t =
    let cut : Rows = filter (λ (e : Key × Row). is_cut t.number p.lo p.hi e.0) rows in
    let kept = few_kept (λ (e : Key × List Cell). all_hold ps e.1) (map (row_found p.schema.columns t) cut) in
    let long = length-map cut (row_found p.schema.columns t) in
    let within = few_kept (λ (e : Key × Row). is_cut t.number p.lo p.hi e.0) rows in
    omega (arith, kept, long, within)

pub returns-in_ok-lines-in-Some-clause-part : goal.returns-in_ok-lines-in-Some-clause-part
returns-in_ok-lines-in-Some-clause-part g c =
    let p = c.args.plan.now in
    let q = p.query in
    let ps = c.args.comparisons.now in
    let rows = g.M.RowsByKey.rows c.args.rows.now in
    let t = listed c.in-Some.table in
    part_of_table q p.schema.columns [] c.args.skip c.args.count c.in_ok-lines-in-Some.lines.items c.most_read-most.result (length rows) (table_found p ps rows t)
    c.in_ok-lines-in-Some.ensures.lines (few_of_one p ps rows t) c.most_read-most.ensures.enough
    ∙ ap (λ (found : Found). cells_found (take c.args.count (drop c.args.skip (cut q (ordered q.order found))))) (sym (picked_of_one p ps rows t c.in-Some.ensures c.in_ok-lines-in-Some.ensures.in_order))

pub returns-in_ok-lines-in-Some-clause-few : goal.returns-in_ok-lines-in-Some-clause-few
returns-in_ok-lines-in-Some-clause-few g c =
    let p = c.args.plan.now in
    let ps = c.args.comparisons.now in
    let rows = g.M.RowsByKey.rows c.args.rows.now in
    let t = listed c.in-Some.table in
    let few = few_of_one p ps rows t in
    let all = c.most_read-most.ensures.few in
    subst (λ (found : Found). length found < 2 ^ 63) (sym (picked_of_one p ps rows t c.in-Some.ensures c.in_ok-lines-in-Some.ensures.in_order)) (omega (arith, few, all))

pub returns-in_ok-lines-in-None-clause-part : goal.returns-in_ok-lines-in-None-clause-part
returns-in_ok-lines-in-None-clause-part g c =
    let p = c.args.plan.now in
    let q = p.query in
    let columns = p.schema.columns in
    ap (λ (lines : List Line). cells_of_lines columns (take c.args.count (drop c.args.skip (cut q lines)))) c.in_ok-lines-in-None.ensures
    ∙ part_keyed q columns [] c.args.skip c.args.count c.in_ok-picked-in-None.picked.entries
    ∙ ap (λ (found : Found). cells_found (take c.args.count (drop c.args.skip (cut q (ordered q.order found))))) c.in_ok-picked-in-None.ensures

pub returns-in_ok-lines-in-None-clause-few : goal.returns-in_ok-lines-in-None-clause-few
returns-in_ok-lines-in-None-clause-few g c =
    let p = c.args.plan.now in
    subst (λ (found : Found). length found < 2 ^ 63) c.in_ok-picked-in-None.ensures
    (few_picked p.query p.schema.columns c.in_ok-picked-in-None.picked.entries c.in_ok-lines-in-None.lines.items c.in_ok-lines-in-None.ensures (omega arith))
