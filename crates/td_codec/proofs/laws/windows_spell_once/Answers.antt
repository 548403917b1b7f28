use Rattle.td_codec.proofs.ValueLaws.{win_key_list_spells, win_row_list_spells}
use Rattle.td_codec.proofs.laws.windows_spell_once.Goals as goal

pub returns : goal.returns
returns c = record { keys = win_key_list_spells; rows = win_row_list_spells }
