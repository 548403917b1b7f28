use Rattle.td_codec.proofs.ValueLaws.{cell_spells, cell_list_spells}
use Rattle.td_codec.proofs.laws.cells_spell_once.Goals as goal

pub returns : goal.returns
returns c = record { one = cell_spells; list = cell_list_spells }
