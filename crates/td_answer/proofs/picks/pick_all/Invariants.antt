use Rattle.std.proofs.Common.{◌≡◌, drop}
use Rattle.std.specs.List.{flat_map}
use Rattle.td_verdict.specs.Answers.{put_in_time}
use Rattle.td_answer.specs.Picks.{keyed, tables_of, table_found, plan_found}
use Rattle.td_answer.proofs.picks.pick_all.Given as goal

-- what is picked of the tables that are left, put among what was picked, is all
abbrev pub invariant-loop-at : goal.invariant-loop-at
invariant-loop-at g l = put_in_time (keyed l.plan.schema.columns l.picked.entries) (flat_map (table_found l.plan l.comparisons (g.M.RowsByKey.rows l.rows)) (drop l.at (tables_of l.plan))) ≡ plan_found l.plan l.comparisons (g.M.RowsByKey.rows l.rows)
