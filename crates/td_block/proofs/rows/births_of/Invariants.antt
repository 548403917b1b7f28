use Rattle.std.proofs.Common.{◌≡◌, [], ◌-◌}
use Rattle.std.specs.Int.{w64}
use Rattle.td_codec.specs.Fields.{number}
use Rattle.td_codec.specs.Lists.{each, items_read}
use Rattle.td_codec.proofs.Loop.{with_front}
use Rattle.td_block.proofs.rows.births_of.Given as goal

abbrev pub invariant-loop : goal.invariant-loop
invariant-loop l = with_front l.births (items_read (each (number w64)) l.births (l.rows - l.counter) l.rest) ≡ items_read (each (number w64)) [] l.rows l.bytes
