use Rattle.std.proofs.Common.{◌≡◌, length}
use Rattle.td_verdict.specs.Groups.{put_rows}
use Rattle.td_query.specs.Read.{keyed_rows, listed, wanted_from}
use Rattle.td_query.proofs.rows.put_table.Given as goal

-- what is wanted of the rows that are left, put among what was put, is all
abbrev pub invariant-rows : goal.invariant-rows
invariant-rows l = put_rows (keyed_rows l.rows.entries) (wanted_from l.plan.schema.columns l.comparisons l.plan.lo l.plan.hi (listed l.table) l.left) ≡ put_rows (keyed_rows l.fn.rows.entries) (wanted_from l.plan.schema.columns l.comparisons l.plan.lo l.plan.hi (listed l.table) l.fn.found)

abbrev pub decreases-rows : goal.decreases-rows
decreases-rows l = length l.left
