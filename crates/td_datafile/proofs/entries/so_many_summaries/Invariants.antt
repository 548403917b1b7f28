use Rattle.std.proofs.Common.{◌≡◌, [], ◌-◌, length}
use Rattle.td_codec.specs.Lists.{each, items_read}
use Rattle.td_codec.proofs.Loop.{with_front}
use Rattle.td_datafile.specs.Entries.{summary_in}
use Rattle.td_datafile.proofs.entries.so_many_summaries.Given as goal

abbrev pub invariant-loop : goal.invariant-loop
invariant-loop l = record {
  at : length l.summaries ≡ l.counter;
  so_far : with_front l.summaries (items_read (each (summary_in l.rows)) l.summaries (l.columns - l.counter) l.rest) ≡ items_read (each (summary_in l.rows)) [] l.columns l.bytes;
}
