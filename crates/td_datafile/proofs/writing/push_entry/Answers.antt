use Rattle.td_block.proofs.ReadLaws.{row_values}
use Rattle.td_datafile.proofs.EntryLaws.{entry_added}
use Rattle.td_datafile.proofs.writing.push_entry.Goals as goal

pub push_summaries-requires-clause-values : goal.push_summaries-requires-clause-values
push_summaries-requires-clause-values c = row_values c.args.kinds.now c.args.rows.now c.requires.holds.fixed c.requires.holds.rows_are

pub returns : goal.returns
returns c =
    entry_added c.args.index.now c.put_u64.new.out c.put_u32.new.out c.put_u32-2.new.out c.put_u32-3.new.out c.put_u64-2.new.out c.put_u64-3.new.out c.put_u16.new.out c.push_summaries.new.index c.args.place c.args.size c.ends_of-first.result.0 c.ends_of-first.result.1
    (record { table = c.args.table; kinds = c.args.kinds.now; rows = c.args.rows.now }) c.in_ok-put_u64.ensures c.in_ok-put_u32.ensures c.in_ok-put_u32-2.ensures c.in_ok-put_u32-3.ensures c.in_ok-put_u64-2.ensures c.in_ok-put_u64-3.ensures c.in_ok-put_u16.ensures c.in_ok-push_summaries.ensures c.requires.size c.ends_of-first.ensures.first c.ends_of-first.ensures.last
