use Rattle.std.proofs.Common.{ℕ, ◌≡◌, take, map}
use Rattle.td_making.proofs.heading.stt_of.Given as goal

-- so many files are noted
abbrev pub invariant-loop-file : goal.invariant-loop-file
invariant-loop-file l = l.stt ≡ map (λ (p : ℕ × ℕ). p.0) (take l.file-index l.file-items)
