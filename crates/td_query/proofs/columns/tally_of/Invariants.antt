use Rattle.std.proofs.Common.{◌≡◌, take}
use Rattle.td_aggr.specs.Tallies.{tally_of}
use Rattle.td_query.specs.Cuts.{kept_rows, values}
use Rattle.td_query.proofs.columns.tally_of.Given as goal

-- the tally of the rows so far
abbrev pub invariant-rows : goal.invariant-rows
invariant-rows l = l.tally ≡ tally_of (values l.place (kept_rows l.kept (take l.entry-index l.rows)))
