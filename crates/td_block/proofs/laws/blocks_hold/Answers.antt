use Rattle.td_block.proofs.HoldLaws.{fits, holds}
use Rattle.td_block.proofs.laws.blocks_hold.Goals as goal

pub returns : goal.returns
returns c = record { fits = fits; holds = holds }
