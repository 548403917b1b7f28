use Rattle.std.proofs.Common.{◌≡◌, take}
use Rattle.td_levels.proofs.files.copied.Given as goal

-- so many files are copied
abbrev pub invariant-loop-file : goal.invariant-loop-file
invariant-loop-file l = l.stt ≡ take l.file-index l.file-items
