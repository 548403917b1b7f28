use Rattle.td_codec.proofs.ValueLaws.{text_spells}
use Rattle.td_codec.proofs.laws.texts_spell_once.Goals as goal

pub returns : goal.returns
returns c = text_spells
