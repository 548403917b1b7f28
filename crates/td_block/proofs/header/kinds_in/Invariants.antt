use Rattle.std.proofs.Common.{◌≡◌, [], ◌-◌, length}
use Rattle.td_codec.specs.Lists.{items_read}
use Rattle.td_codec.proofs.Loop.{with_front}
use Rattle.td_block.specs.Headers.{kinds_of}
use Rattle.td_block.proofs.header.kinds_in.Given as goal

abbrev pub invariant-loop : goal.invariant-loop
invariant-loop l = record {
  at : length l.kinds ≡ l.counter;
  so_far : with_front l.kinds (items_read (kinds_of l.rows) l.kinds (l.columns - l.counter) l.rest) ≡ items_read (kinds_of l.rows) [] l.columns l.bytes;
}
