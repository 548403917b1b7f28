use Rattle.std.proofs.Common.{◌≡◌, take}
use Rattle.td_query.specs.Picks.{picked_shown}
use Rattle.td_query.proofs.shown.shown_all.Given as goal

abbrev pub invariant-rows : goal.invariant-rows
invariant-rows l = l.all ≡ picked_shown l.columns l.places (take l.row-index l.rows)
