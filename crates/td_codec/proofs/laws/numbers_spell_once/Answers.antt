use Rattle.std.specs.Int.{w8, w16, w32, w64}
use Rattle.td_codec.proofs.FieldLaws.{wide8, wide16, wide32, wide64, number_spells, signed_64_spells}
use Rattle.td_codec.proofs.laws.numbers_spell_once.Goals as goal

pub returns : goal.returns
returns c = record { byte = number_spells w8 wide8; of_16_bits = number_spells w16 wide16; of_32_bits = number_spells w32 wide32; of_64_bits = number_spells w64 wide64; signed = signed_64_spells }
