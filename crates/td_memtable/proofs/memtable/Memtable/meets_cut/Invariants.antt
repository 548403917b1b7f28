use Rattle.std.proofs.Common.{◌≡◌}
use Rattle.td_memtable.specs.Tables.{meets_cut}
use Rattle.td_memtable.proofs.memtable.Memtable.meets_cut.Given as goal

-- the cuts that are left meet the timestamps where all do
abbrev pub invariant-loop-key : goal.invariant-loop-key
invariant-loop-key l = meets_cut l.lo l.hi l.key-iterator ≡ meets_cut l.lo l.hi l.self.cuts
