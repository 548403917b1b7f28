use Rattle.std.proofs.Common.{◌≡◌, take}
use Rattle.td_state.specs.Heads.{stable_heads}
use Rattle.td_state.proofs.to_head.stable_heads.Given as goal

-- so many are there
abbrev pub invariant-loop-place : goal.invariant-loop-place
invariant-loop-place l = l.stables ≡ take l.place (stable_heads l.catalog.catalog.stables l.contents.kept.greatest.stables)
