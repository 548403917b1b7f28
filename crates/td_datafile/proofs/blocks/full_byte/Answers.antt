use Rattle.std.proofs.Common.{sym, ◌∙◌}
use Rattle.td_datafile.proofs.Named.{full_at}
use Rattle.td_datafile.proofs.blocks.full_byte.Goals as goal

pub returns : goal.returns
returns c = c.set_bits.ensures ∙ sym (full_at c.args.rows c.args.byte c.requires)
