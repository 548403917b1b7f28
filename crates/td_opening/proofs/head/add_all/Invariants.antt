use Rattle.std.proofs.Common.{◌≡◌, ◌++◌, take}
use Rattle.td_opening.proofs.head.add_all.Given as goal

abbrev pub invariant-loop-file : goal.invariant-loop-file
invariant-loop-file l = l.files ≡ l.fn.files ++ take l.file-index l.stt
