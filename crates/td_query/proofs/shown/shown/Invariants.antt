use Rattle.std.proofs.Common.{◌≡◌, take}
use Rattle.td_verdict.specs.Answers.{shown}
use Rattle.td_query.specs.Picks.{picked_cells}
use Rattle.td_query.proofs.shown.shown.Given as goal

abbrev pub invariant-places : goal.invariant-places
invariant-places l = l.all ≡ shown (take l.place-index l.places) (picked_cells l.columns l.row)
