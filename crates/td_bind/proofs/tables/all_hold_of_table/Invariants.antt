use Rattle.std.proofs.Common.{◌≡◌, drop}
use Rattle.td_verdict.specs.Plans.{all_hold_of_table}
use Rattle.td_bind.proofs.tables.all_hold_of_table.Given as goal

abbrev pub invariant-loop-comparison : goal.invariant-loop-comparison
invariant-loop-comparison l = all_hold_of_table l.columns l.comparisons l.name l.tags ≡ all_hold_of_table l.columns (drop l.comparison-index l.comparisons) l.name l.tags
