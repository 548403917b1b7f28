use Rattle.std.proofs.Common.{◌≡◌, [], ◌-◌}
use Rattle.td_codec.specs.Lists.{items_read}
use Rattle.td_codec.proofs.Loop.{with_front}
use Rattle.td_block.specs.Rows.{time_items}
use Rattle.td_block.proofs.rows.times_of.Given as goal

abbrev pub invariant-loop : goal.invariant-loop
invariant-loop l = with_front l.times (items_read time_items l.times (l.rows - l.counter) l.rest) ≡ items_read time_items [] l.rows l.bytes
