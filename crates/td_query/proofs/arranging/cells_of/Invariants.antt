use Rattle.std.proofs.Common.{◌≡◌, take}
use Rattle.td_verdict.specs.Arranged.{cells_shown}
use Rattle.td_query.specs.Shown.{all_shown}
use Rattle.td_query.proofs.arranging.cells_of.Given as goal

abbrev pub invariant-rows : goal.invariant-rows
invariant-rows l = l.all ≡ cells_shown (all_shown (take l.shown-index l.rows))
