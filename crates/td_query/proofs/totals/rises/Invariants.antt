use Rattle.std.proofs.Common.{◌≡◌, length}
use Rattle.td_query.specs.Totals.{rises}
use Rattle.td_query.proofs.totals.rises.Given as goal

abbrev pub invariant-tables : goal.invariant-tables
invariant-tables l = rises l.left ≡ rises l.fn.tables

abbrev pub decreases-tables : goal.decreases-tables
decreases-tables l = length l.left
