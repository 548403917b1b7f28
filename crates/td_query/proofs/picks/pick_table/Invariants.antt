use Rattle.std.proofs.Common.{◌≡◌, reverse, length}
use Rattle.td_verdict.specs.Answers.{put_in_time}
use Rattle.td_query.specs.Picks.{found_rows, wanted_found}
use Rattle.td_query.specs.Read.{listed}
use Rattle.td_query.proofs.picks.pick_table.Given as goal

-- what is wanted of the rows that are left, put among what was put, is all
abbrev pub invariant-rows : goal.invariant-rows
invariant-rows l = put_in_time (found_rows l.plan.schema.columns l.picked.entries) (wanted_found l.plan.schema.columns l.comparisons l.plan.lo l.plan.hi (listed l.table) (reverse l.left.items)) ≡ put_in_time (found_rows l.plan.schema.columns l.fn.picked.entries) (wanted_found l.plan.schema.columns l.comparisons l.plan.lo l.plan.hi (listed l.table) l.fn.found)

abbrev pub decreases-rows : goal.decreases-rows
decreases-rows l = length l.left.items
