use Rattle.std.proofs.Common.{◌≡◌, take}
use Rattle.td_manifest.specs.Files.{all_files}
use Rattle.td_opening.proofs.head.files_of.Given as goal

abbrev pub invariant-loop-set : goal.invariant-loop-set
invariant-loop-set l = l.files ≡ all_files (take l.set-index l.set-items)
