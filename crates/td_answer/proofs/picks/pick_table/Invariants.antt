use Rattle.std.proofs.Common.{◌≡◌, filter}
use Rattle.td_model.specs.State.{is_cut}
use Rattle.td_verdict.specs.Answers.{put_in_time}
use Rattle.td_answer.specs.Picks.{keyed, listed, found_of}
use Rattle.td_answer.proofs.picks.pick_table.Given as goal

-- what is picked of the rows that are left, put among what was picked, is all
abbrev pub invariant-loop-key : goal.invariant-loop-key
invariant-loop-key g l = put_in_time (keyed l.columns l.picked.entries) (found_of l.columns l.comparisons (listed l.table) l.key-iterator) ≡ put_in_time (keyed l.columns l.fn.picked.entries) (found_of l.columns l.comparisons (listed l.table) (filter (λ e. is_cut l.table.number l.plan.lo l.plan.hi e.0) (g.M.RowsByKey.rows l.rows)))
