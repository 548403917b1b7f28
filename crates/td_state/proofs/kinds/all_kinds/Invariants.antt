use Rattle.std.proofs.Common.{◌≡◌, take}
use Rattle.td_state.specs.Kinds.{all_kinds}
use Rattle.td_state.proofs.kinds.all_kinds.Given as goal

-- the kinds of so many tables are there
abbrev pub invariant-loop-place : goal.invariant-loop-place
invariant-loop-place l = l.kinds ≡ take l.place (all_kinds l.catalog.catalog)
