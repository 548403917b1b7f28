use Rattle.std.proofs.Common.{◌≡◌}
use Rattle.td_query.specs.Read.{keyed_rows}
use Rattle.td_query.proofs.rows.with_keys.Given as goal

abbrev pub invariant-rows : goal.invariant-rows
invariant-rows l = l.all.items ≡ keyed_rows l.yielded
