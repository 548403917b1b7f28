use Rattle.std.proofs.Common.{ℕ}
use Rattle.td_layer.specs.declared.parts.Partial.{Partial}
use Rattle.td_layer.specs.Columns.{AreColumnCells}
use Rattle.td_datafile.specs.Scanned.{is_wanted, wanted_of}
use Rattle.td_datafile.proofs.Walks.{all_filtered, all_of_reversed}
use Rattle.td_datafile.proofs.scans.wanted_block.Goals as goal

pub returns-clause-values : goal.returns-clause-values
returns-clause-values g c =
    let lo = c.args.wanted.now.lo in
    let hi = c.args.wanted.now.hi in
    all_of_reversed (λ (row : ℕ × Partial). AreColumnCells row.1.cells) c.in_ok-rows.rows (wanted_of lo hi c.in_ok-found.found) c.in_ok-rows.ensures
    (all_filtered (λ (row : ℕ × Partial). AreColumnCells row.1.cells) (is_wanted lo hi) c.in_ok-found.found c.in_ok-found.ensures.values)
