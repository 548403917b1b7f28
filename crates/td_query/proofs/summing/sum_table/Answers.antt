use Rattle.std.proofs.Common.{◌≡◌, ◌++◌, ◌≤◌, ℕ, List, length, drop, take, true, ap, ◌∙◌, subst, arith, length-drop, ◌-◌}
use Rattle.std.proofs.lemmas.List.{length-take, take_all}
use Rattle.td_layer.specs.declared.values.Row.{Row}
use Rattle.td_query.specs.Sums.{sum_of}
use Rattle.td_query.specs.Frames.{is_in_pane}
use Rattle.td_query.specs.Summed.{wanted_by, LiesIn, AreSums}
use Rattle.td_verdict.specs.Windowed.{Keyed}
use Rattle.td_query.proofs.Runs.{all_from, wanted_lie, run_more, left_is}
use Rattle.td_query.proofs.summing.sum_table.Goals as goal

pub runs-preserved : goal.runs-preserved
runs-preserved c =
    let asked = c.args.asked.now in
    let t = c.args.table.now in
    let left = c.runs.left.now in
    let found = c.args.found.now in
    let from = c.run_start-from.result in
    let f = asked.frame in
    let p = c.pane_at-pane.result in
    let some = c.in-len1-up.len_at_least in
    let inside = c.run_start-from.ensures.inside in
    let long = length-take (length left - 1) left in
    let near : from ≤ length left - 1 = omega (arith, inside, long) in
    let low : from ≤ length left = omega (arith, near) in
    let last = c.last-item.result in
    let here : LiesIn f p last = subst (λ (n : ℕ). is_in_pane f.len f.slide p.first p.last n ≡ true) c.within_time.ensures.same c.pane_at-pane.ensures.pane in
    let lie = all_from (LiesIn f p) from left last some near c.run_start-from.ensures.run (subst (λ (row : ℕ × Row). LiesIn f p row) c.last-item.is here) in
    let rest = length-drop from left in
    let whole : take (length left - from) (drop from left) ≡ drop from left = take_all (length left - from) (drop from left) (omega (arith, rest)) in (
      left_is left found from c.runs.invariant.0 low,
      λ rows old.
          subst (λ (l : List Keyed). AreSums f asked.places.now c.put_pane.new.windows l)
          (run_more asked t left found from rows c.runs.invariant.0 low)
          (c.in_ok-put_pane.ensures asked.places.now (wanted_by asked t (drop from left)) (wanted_by asked t (drop (length left) found) ++ rows) (c.in_ok-sum.ensures ∙ ap (λ (l : List (ℕ × Row)). sum_of asked.places.now (wanted_by asked t l)) whole) (wanted_lie asked t f p c.requires.time (drop from left) lie) (c.runs.invariant.1 rows old)),
    )
