use Rattle.std.proofs.Common.{◌≡◌, ◌++◌}
use Rattle.std.specs.List.{flat_map}
use Rattle.td_datafile.specs.Sums.{summaries}
use Rattle.td_datafile.specs.Index.{summary_bytes}
use Rattle.td_datafile.proofs.writing.push_summaries.Given as goal

abbrev pub invariant-loop-column : goal.invariant-loop-column
invariant-loop-column l = l.index ≡ l.fn.index ++ flat_map summary_bytes (summaries l.column l.rows)
