use Rattle.std.proofs.Common.{◌≡◌, take, false}
use Rattle.td_verdict.specs.Names.{stands_twice}
use Rattle.td_bind.specs.Seen.{texts}
use Rattle.td_bind.proofs.seen.stands_twice.Given as goal

abbrev pub invariant-loop-name : goal.invariant-loop-name
invariant-loop-name l = (texts l.seen.keys ≡ take l.name-index l.names) × (stands_twice (take l.name-index l.names) ≡ false)
