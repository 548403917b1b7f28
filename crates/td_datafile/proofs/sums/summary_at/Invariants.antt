use Rattle.std.proofs.Common.{◌≡◌, ◌+◌, ◌≤◌, length}
use Rattle.std.specs.List.{AllByRecursion}
use Rattle.td_layer.specs.Columns.{AreColumnCells}
use Rattle.td_block.specs.Rows.{column_at}
use Rattle.td_datafile.specs.Sums.{summary_of, numbers_of, HasSum}
use Rattle.td_datafile.proofs.SumLaws.{with_cells}
use Rattle.td_datafile.proofs.sums.summary_at.Given as goal

abbrev pub invariant-loop-row : goal.invariant-loop-row
invariant-loop-row l = record {
  whole : with_cells (column_at l.left l.column) l.summary ≡ summary_of (numbers_of (column_at l.rows l.column));
  few : l.summary.count + length l.left ≤ length l.rows;
  sum : HasSum l.summary;
  values : AllByRecursion (λ row. AreColumnCells row.1.cells) l.left;
}

abbrev pub decreases-loop-row : goal.decreases-loop-row
decreases-loop-row l = length l.left
