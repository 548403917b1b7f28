use Rattle.std.proofs.Common.{◌≡◌, ◌++◌, length}
use Rattle.td_memtree.proofs.build.last_pairs.Given as goal

-- the pairs that were taken stood behind those that are left
abbrev pub invariant-loop : goal.invariant-loop
invariant-loop g l = (l.fn.pairs ≡ l.pairs ++ l.taken.items) × (length l.taken.items ≡ l.counter)
