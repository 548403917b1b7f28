use Rattle.std.proofs.Common.{◌≡◌, ◌+◌, ◌≤◌, length}
use Rattle.std.specs.List.{AllByRecursion}
use Rattle.td_layer.specs.Columns.{AreColumnCells}
use Rattle.td_aggr.specs.Tallies.{merged, IsSound}
use Rattle.td_datafile.specs.Scanning.{want_of}
use Rattle.td_datafile.specs.Folding.{tally_of_rows}
use Rattle.td_datafile.proofs.folding.tally_of_rows.Given as goal

abbrev pub invariant-loop-row : goal.invariant-loop-row
invariant-loop-row l = record {
  whole : merged (tally_of_rows (want_of l.wanted) l.column l.left) l.tally ≡ tally_of_rows (want_of l.wanted) l.column l.rows;
  sound : IsSound l.tally;
  rows : l.tally.rows + length l.left ≤ length l.rows;
  count : l.tally.count + length l.left ≤ length l.rows;
  values : AllByRecursion (λ row. AreColumnCells row.1.cells) l.left;
}

abbrev pub decreases-loop-row : goal.decreases-loop-row
decreases-loop-row l = length l.left
