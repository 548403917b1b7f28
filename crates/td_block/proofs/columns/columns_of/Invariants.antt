use Rattle.std.proofs.Common.{◌≡◌, drop}
use Rattle.td_codec.proofs.Loop.{with_front}
use Rattle.td_block.specs.Blocks.{columns}
use Rattle.td_block.proofs.columns.columns_of.Given as goal

abbrev pub invariant-loop-kind : goal.invariant-loop-kind
invariant-loop-kind l = with_front l.columns ((columns l.rows (drop l.kind-index l.kinds)).read l.rest) ≡ (columns l.rows l.kinds).read l.bytes
