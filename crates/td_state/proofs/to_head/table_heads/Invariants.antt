use Rattle.std.proofs.Common.{◌≡◌, take}
use Rattle.td_state.specs.Heads.{table_heads}
use Rattle.td_state.proofs.to_head.table_heads.Given as goal

-- so many are there
abbrev pub invariant-loop-place : goal.invariant-loop-place
invariant-loop-place l = l.tables ≡ take l.place (table_heads l.catalog.catalog.tables l.contents.kept.greatest.tables)
