use Rattle.td_block.proofs.BlockLaws.{one_block}
use Rattle.td_block.proofs.ReadLaws.{decoded_again}
use Rattle.td_block.proofs.laws.one_block.Goals as goal

pub returns : goal.returns
returns c = record { one = one_block; again = decoded_again }
