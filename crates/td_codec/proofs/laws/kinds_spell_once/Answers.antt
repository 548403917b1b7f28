use Rattle.td_cols.proofs.OneSpelling.{kind_spelling}
use Rattle.td_codec.proofs.FieldLaws.{kind_number_spells}
use Rattle.td_codec.proofs.laws.kinds_spell_once.Goals as goal

pub returns : goal.returns
returns c = kind_number_spells c.args.kind (kind_spelling c.args.kind)
