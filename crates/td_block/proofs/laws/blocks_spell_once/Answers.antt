use Rattle.td_block.proofs.BlockLaws.{block_spells}
use Rattle.td_block.proofs.laws.blocks_spell_once.Goals as goal

pub returns : goal.returns
returns c = block_spells
