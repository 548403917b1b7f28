use Rattle.std.proofs.Common.{◌≡◌, [], ◌-◌, length}
use Rattle.td_codec.specs.Lists.{items_read}
use Rattle.td_codec.proofs.Loop.{with_front}
use Rattle.td_sttfile.specs.Opening.{cut_items}
use Rattle.td_sttfile.proofs.opening.cuts_of.Given as goal

abbrev pub invariant-loop : goal.invariant-loop
invariant-loop l = record {
  at : length l.cuts ≡ l.counter;
  so_far : with_front l.cuts (items_read (cut_items l.range) l.cuts (l.count - l.counter) l.rest) ≡ items_read (cut_items l.range) [] l.count l.bytes;
}
