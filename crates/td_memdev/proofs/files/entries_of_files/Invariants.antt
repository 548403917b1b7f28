use Rattle.std.proofs.Common.{◌≡◌, map, take}
use Rattle.td_memdev.specs.Entries.{finished_entry}
use Rattle.td_memdev.proofs.files.entries_of_files.Given as goal

-- what was taken so far
abbrev pub invariant-loop-pair : goal.invariant-loop-pair
invariant-loop-pair l = l.entries.items ≡ map finished_entry (take l.pair-index l.files)
