use Rattle.td_query.specs.Picks.{found_rows}
use Rattle.td_query.specs.Read.{listed}
use Rattle.td_query.proofs.Picking.{picks_read}
use Rattle.td_query.proofs.picks.read_picked.Goals as goal

pub returns-clause-found : goal.returns-clause-found
returns-clause-found g c =
    let columns = c.args.plan.now.schema.columns in
    picks_read c.args.plan.now c.args.comparisons.now (listed c.args.table.now) (g.Q.Snapshot.rows c.args.snap.now) c.in_ok-found.found (found_rows columns c.args.picked.now.entries) (found_rows columns c.pick_table.new.picked.entries)
    c.in_ok-found.ensures.found c.in_ok-pick_table.ensures
