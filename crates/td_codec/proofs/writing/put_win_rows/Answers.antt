use Rattle.td_codec.specs.Values.{win_rows, win_row_list}
use Rattle.td_codec.specs.Writing.{win_row_fits}
use Rattle.td_codec.proofs.WritingLaws.{list_few, list_passes, row_passes}
use Rattle.td_codec.proofs.writing.put_win_rows.Goals as goal

pub put_list-requires : goal.put_list-requires
unfolding win_row_list
put_list-requires c = record {
  few = list_few win_rows c.args.rows.now c.requires;
  writable = list_passes win_rows win_row_fits row_passes c.args.rows.now c.requires;
}
