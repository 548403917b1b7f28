use Rattle.std.proofs.Common.{map, sym, subst}
use Rattle.std.specs.List.Sorted.{IsNonDecreasing}
use Rattle.td_model.specs.State.{Rows}
use Rattle.td_query.specs.Read.{time_of}
use Rattle.td_query.proofs.Rising.{sorted_times}
use Rattle.td_query.proofs.rows.into_rows.Goals as goal

pub returns-clause-in_order : goal.returns-clause-in_order
returns-clause-in_order c =
    subst (λ (rows : Rows). IsNonDecreasing (map time_of rows)) (sym c.in_ok-all.ensures) (sorted_times c.args.rows.entries c.len-room.ensures.ordered)
