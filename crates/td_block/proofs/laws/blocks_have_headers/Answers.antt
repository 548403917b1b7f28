use Rattle.td_block.proofs.HeaderLaws.{block_has_header, block_size}
use Rattle.td_block.proofs.laws.blocks_have_headers.Goals as goal

pub returns : goal.returns
returns c = record { header = block_has_header; size = block_size }
