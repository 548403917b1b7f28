use Rattle.std.proofs.Common.{◌≡◌, ◌++◌, map, take, drop}
use Rattle.td_memdev.specs.Entries.{closed}
use Rattle.td_memdev.proofs.files.close_all.Given as goal

-- the entries up to here are without open readers, and the others as they were
abbrev pub invariant-loop-entry : goal.invariant-loop-entry
invariant-loop-entry l = l.files ≡ map closed (take l.entry-index l.fn.files) ++ drop l.entry-index l.fn.files
