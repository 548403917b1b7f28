use Rattle.std.proofs.Common.{sym, ◌∙◌, arith}
use Rattle.td_datafile.proofs.Named.{unnamed_cut}
use Rattle.td_datafile.proofs.blocks.first_unnamed.Goals as goal

pub returns-then-at-part : goal.returns-then-at-part
returns-then-at-part c = sym (unnamed_cut c.loop-kind.at c.args.rows c.loop-kind.left.now c.args.part.now (omega (arith, c.if-at-part.true))) ∙ c.loop-kind.invariant
