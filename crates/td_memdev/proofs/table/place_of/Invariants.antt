use Rattle.std.proofs.Common.{◌≡◌, take, None}
use Rattle.td_memdev.specs.Tables.{find}
use Rattle.td_memdev.proofs.table.place_of.Given as goal

-- no entry so far has the number
abbrev pub invariant-loop-place : goal.invariant-loop-place
invariant-loop-place g l = find g.T.Numbered.number l.number (take l.place l.entries) ≡ None
