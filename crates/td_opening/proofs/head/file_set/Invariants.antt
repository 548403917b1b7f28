use Rattle.std.proofs.Common.{◌≡◌, ℕ, map, take}
use Rattle.td_opening.proofs.head.file_set.Given as goal

abbrev pub invariant-loop-file : goal.invariant-loop-file
invariant-loop-file l = map (λ (p : ℕ × ℕ). p.0) l.stt ≡ take l.file-index l.file-items
