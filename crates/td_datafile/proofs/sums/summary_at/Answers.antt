use Rattle.std.proofs.Common.{◌≡◌, ◌++◌, ◌∷◌, [], ℕ, length, ap, sym, subst, ◌∙◌, arith}
use Rattle.std.specs.List.{AllByRecursion}
use Rattle.std.proofs.lemmas.Int.{ints}
use Rattle.std.proofs.lemmas.List.{length-append}
use Rattle.td_layer.specs.declared.parts.Partial.{Partial}
use Rattle.td_layer.specs.Columns.{AreColumnCells}
use Rattle.td_block.specs.Rows.{Rows, column_at}
use Rattle.td_datafile.specs.Sums.{with_cell}
use Rattle.td_datafile.proofs.SumLaws.{with_cells, all_cells, last_first, all_before, cell_holds, one_more}
use Rattle.td_datafile.proofs.sums.summary_at.Goals as goal

pub loop-row-init : goal.loop-row-init
loop-row-init c = record {
  whole = all_cells (column_at c.args.rows.now c.args.column);
  few = omega arith;
  sum = record { low = omega (arith, ints); high = omega (arith, ints) };
  values = c.requires.values;
}

pub with_cell-summary-requires-clause-cell : goal.with_cell-summary-requires-clause-cell
with_cell-summary-requires-clause-cell c =
    let left : c.loop-row.left.now ≡ c.in-Some.rest.now ++ c.in-Some.row.now ∷ [] = c.in-Some.ensures.cases.0 in
    let all = all_before (λ (row : ℕ × Partial). AreColumnCells row.1.cells) c.in-Some.rest.now c.in-Some.row.now (subst (λ (l : Rows). AllByRecursion (λ (row : ℕ × Partial). AreColumnCells row.1.cells) l) left c.loop-row.invariant.values) in
    subst (λ o. Rattle.std.specs.Prelude.IfSome o Rattle.td_layer.specs.Columns.IsColumnValue) (sym c.cell_at.ensures) (subst (λ cells. Rattle.std.specs.Prelude.IfSome (Rattle.std.specs.Prelude.slice_index_or cells c.args.column Rattle.std.specs.Prelude.None) Rattle.td_layer.specs.Columns.IsColumnValue) (sym c.as_slice.ensures) (cell_holds c.in-Some.row.now.1.cells c.args.column all.1))

pub loop-row-preserved : goal.loop-row-preserved
loop-row-preserved c =
    let rest = c.in-Some.rest.now in
    let row = c.in-Some.row.now in
    let s = c.loop-row.summary in
    let left : c.loop-row.left.now ≡ rest ++ row ∷ [] = c.in-Some.ensures.cases.0 in
    let all = all_before (λ (r : ℕ × Partial). AreColumnCells r.1.cells) rest row (subst (λ (l : Rows). AllByRecursion (λ (r : ℕ × Partial). AreColumnCells r.1.cells) l) left c.loop-row.invariant.values) in
    let cell = c.cell_at.ensures ∙ ap (λ cells. Rattle.std.specs.Prelude.slice_index_or cells c.args.column Rattle.std.specs.Prelude.None) c.as_slice.ensures in
    let now = c.with_cell-summary.ensures.result ∙ ap (λ o. with_cell o s) cell in
    let long = ap length left ∙ length-append rest (row ∷ []) in
    let more = one_more c.cell_at.result s in
    let count = ap (λ (t : Rattle.td_datafile.specs.declared.format.Summary.Summary). t.count) c.with_cell-summary.ensures.result in
    record {
      whole = ap (with_cells (column_at rest c.args.column)) now ∙ sym (last_first rest row c.args.column s) ∙ sym (ap (λ (l : Rows). with_cells (column_at l c.args.column) s) left) ∙ c.loop-row.invariant.whole;
      few = omega (arith, long, more, count, c.loop-row.invariant.few);
      sum = c.with_cell-summary.ensures.sum;
      values = all.0;
    }
