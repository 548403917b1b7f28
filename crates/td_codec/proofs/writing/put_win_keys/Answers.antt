use Rattle.td_codec.specs.Values.{win_key, win_keys, win_key_list}
use Rattle.td_codec.proofs.WritingLaws.{list_few, list_passes, key_passes}
use Rattle.td_codec.proofs.writing.put_win_keys.Goals as goal

pub put_list-requires : goal.put_list-requires
unfolding win_key_list
put_list-requires c = record {
  few = list_few win_keys c.args.keys.now c.requires;
  writable = list_passes win_keys win_key.fits key_passes c.args.keys.now c.requires;
}
