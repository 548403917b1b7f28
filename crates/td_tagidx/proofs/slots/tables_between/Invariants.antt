use Rattle.std.proofs.Common.{◌≡◌, ◌++◌, map}
use Rattle.td_tagidx.specs.Order.{table_of}
use Rattle.td_tagidx.specs.Slots.{between}
use Rattle.td_tagidx.proofs.slots.tables_between.Given as goal

abbrev pub invariant-loop-slot : goal.invariant-loop-slot
invariant-loop-slot l = l.tables.items ++ map (λ s. table_of s.mark) l.slot-iterator ≡ map (λ s. table_of s.mark) (between l.from l.to l.slots.keys)
