use Rattle.std.proofs.Common.{◌≡◌, map, take}
use Rattle.td_memdev.specs.Entries.{stable_entry}
use Rattle.td_memdev.proofs.logs.entries_of_logs.Given as goal

-- what was taken so far
abbrev pub invariant-loop-pair : goal.invariant-loop-pair
invariant-loop-pair l = l.entries.items ≡ map stable_entry (take l.pair-index l.logs)
