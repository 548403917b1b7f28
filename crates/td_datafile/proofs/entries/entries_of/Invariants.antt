use Rattle.std.proofs.Common.{◌≡◌, [], ◌-◌, length}
use Rattle.td_codec.specs.Lists.{items_read}
use Rattle.td_codec.proofs.Loop.{with_front}
use Rattle.td_datafile.specs.Entries.{behind, entry_items}
use Rattle.td_datafile.proofs.entries.entries_of.Given as goal

abbrev pub invariant-loop : goal.invariant-loop
invariant-loop l = record {
  at : length l.entries ≡ l.counter;
  behind_is : l.behind ≡ behind l.entries;
  so_far : with_front l.entries (items_read (entry_items l.range l.index) l.entries (l.count - l.counter) l.rest) ≡ items_read (entry_items l.range l.index) [] l.count l.bytes;
}
