use Rattle.std.proofs.Common.{◌≡◌, ℕ, ◌+◌, ◌≤◌, ◌<◌, ◌++◌, Bool, true, false, cond, [], ◌∷◌, List, length, sym, ap, ◌∙◌, append_assoc, refl, arith, length-append}
use Rattle.std.proofs.lemmas.List.{length-map}
use Rattle.td_layer.specs.declared.values.Cell.{Cell}
use Rattle.td_layer.specs.declared.values.Key.{Key}
use Rattle.td_layer.specs.declared.values.Row.{Row}
use Rattle.td_model.specs.State.{Rows}
use Rattle.td_model.specs.declared.catalog.Column.{Column}
use Rattle.td_verdict.specs.Answers.{Found}
use Rattle.td_verdict.specs.declared.comparison.Comparison.{Comparison}
use Rattle.td_verdict.specs.Fields.{all_hold}
use Rattle.td_answer.specs.Firsts.{cells_of_lines, cells_found, if_held}
use Rattle.td_answer.specs.Lines.{line_cells}
use Rattle.td_answer.specs.declared.cells.Line.{Line}
use Rattle.td_answer.specs.Picks.{Listed, listed, found_of, row_found, table_found}
use Rattle.td_answer.proofs.firsts.first_lines.Goals as goal

-- of a row in front its cells are picked, if all comparisons are true of it
picked_more : (columns : List Column) (ps : List Comparison) (t : Listed) (e : Key × Row) (rest : Rows)
    → cells_found (found_of columns ps t (e ∷ rest))
    ≡ if_held ps (row_found columns t e).1 ++ cells_found (found_of columns ps t rest)
picked_more columns ps t e rest = by (all_hold ps (row_found columns t e).1)
  where
    by : (b : Bool) → cells_found (cond b (row_found columns t e ∷ found_of columns ps t rest) (found_of columns ps t rest))
        ≡ cond b ((row_found columns t e).1 ∷ []) [] ++ cells_found (found_of columns ps t rest)
    by true = refl
    by false = refl

held_few : (ps : List Comparison) (cells : List Cell) → length (if_held ps cells) ≤ 1
held_few ps cells = by (all_hold ps cells)
  where
    by : (b : Bool) → length (cond b (cells ∷ []) []) ≤ 1
    by true = omega arith
    by false = omega arith

-- with one row more there are no more than wanted, where there were fewer
more_few : (columns : List Column) (old new : List Line) (ps : List Comparison) (cells : List Cell) (len most : ℕ)
    → cells_of_lines columns new ≡ cells_of_lines columns old ++ if_held ps cells → len ≡ length old → len < most
    → length new ≤ most
more_few columns old new ps cells len most is len_is under =
    let shown : Line → List Cell = λ l. line_cells columns l in
    let more : length new ≡ length old + length (if_held ps cells) =
    sym (length-map new shown) ∙ ap length is ∙ length-append (cells_of_lines columns old) (if_held ps cells)
    ∙ ap (λ n. n + length (if_held ps cells)) (length-map old shown) in
    let one = held_few ps cells in
    omega (arith, more, one, under, len_is)

pub loop-key-preserved : goal.loop-key-preserved
loop-key-preserved g c =
    let columns = c.as_slice-columns.result.now in
    let ps = c.args.comparisons.now in
    let t = listed c.args.table.now in
    let old = cells_of_lines columns c.loop-key.lines.items in (
      ap (λ xs. xs ++ cells_found (found_of columns ps t c.next.new.self)) c.in_ok-add_held.ensures
          ∙ append_assoc old (if_held ps (row_found columns t (c.in-Some.key, c.in-Some.row.now)).1) (cells_found (found_of columns ps t c.next.new.self))
          ∙ ap (λ xs. old ++ xs) (sym (picked_more columns ps t (c.in-Some.key, c.in-Some.row.now) c.next.new.self))
          ∙ ap (λ rows. old ++ cells_found (found_of columns ps t rows)) (sym c.in-Some.ensures.steps)
          ∙ c.loop-key.invariant.0,
      more_few columns c.loop-key.lines.items c.add_held.new.lines.items ps (row_found columns t (c.in-Some.key, c.in-Some.row.now)).1 c.len.result c.args.most c.in_ok-add_held.ensures (c.len.ensures ∙ c.loop-key.lines.ok.0) c.if-len-most.false,
    )
