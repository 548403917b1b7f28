use Rattle.std.proofs.Common.{◌≡◌}
use Rattle.td_query.specs.Planned.{keyed}
use Rattle.td_query.specs.Sums.{with_value}
use Rattle.td_query.proofs.SumRows.{partly}
use Rattle.td_query.proofs.sums.add_values.Given as goal

-- the tallies before the place have the row
abbrev pub invariant-places : goal.invariant-places
invariant-places l = l.tallies ≡ partly (with_value (keyed l.table (l.ts, l.row))) l.at l.places l.fn.tallies
