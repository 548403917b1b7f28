use Rattle.std.proofs.Common.{◌≡◌, take}
use Rattle.td_memdev.specs.Entries.{numbers_of}
use Rattle.td_memdev.proofs.files.finished_numbers.Given as goal

-- what was taken so far
abbrev pub invariant-loop-entry : goal.invariant-loop-entry
invariant-loop-entry l = l.numbers ≡ numbers_of (take l.entry-index l.files)
