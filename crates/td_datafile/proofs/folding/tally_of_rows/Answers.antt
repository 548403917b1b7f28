use Rattle.std.proofs.Common.{◌≡◌, ℕ, ◌++◌, ◌∷◌, [], length, ap, sym, subst, ◌∙◌, arith}
use Rattle.std.specs.List.{AllByRecursion}
use Rattle.std.proofs.lemmas.List.{length-append}
use Rattle.td_layer.specs.declared.parts.Partial.{Partial}
use Rattle.td_layer.specs.Columns.{AreColumnCells}
use Rattle.td_aggr.specs.Tallies.{merged}
use Rattle.td_block.specs.Rows.{Rows}
use Rattle.td_datafile.specs.Scanning.{want_of}
use Rattle.td_datafile.specs.Folding.{tally_of_rows}
use Rattle.td_datafile.proofs.SumLaws.{all_before}
use Rattle.td_datafile.proofs.Folds.{last_row}
use Rattle.td_datafile.proofs.folding.tally_of_rows.Goals as goal

pub loop-row-preserved : goal.loop-row-preserved
loop-row-preserved c =
    let want = want_of c.args.wanted.now in
    let column = c.args.column in
    let rest = c.in-Some.rest.now in
    let row = c.in-Some.row.now in
    let t = c.loop-row.tally in
    let left : c.loop-row.left.now ≡ rest ++ row ∷ [] = c.in-Some.ensures.cases.0 in
    let all = all_before (λ (r : ℕ × Partial). AreColumnCells r.1.cells) rest row (subst (λ (l : Rows). AllByRecursion (λ (r : ℕ × Partial). AreColumnCells r.1.cells) l) left c.loop-row.invariant.values) in
    let long = ap length left ∙ length-append rest (row ∷ []) in
    record {
      whole = ap (merged (tally_of_rows want column rest)) c.with_row-tally.ensures.tally
          ∙ sym (last_row want column rest row t)
          ∙ sym (ap (λ (l : Rows). merged (tally_of_rows want column l) t) left)
          ∙ c.loop-row.invariant.whole;
      sound = c.with_row-tally.ensures.sound;
      rows = omega (arith, long, c.with_row-tally.ensures.rows, c.loop-row.invariant.rows);
      count = omega (arith, long, c.with_row-tally.ensures.count, c.loop-row.invariant.count);
      values = all.0;
    }
