use Rattle.std.proofs.Common.{arith, ◌∙◌}
use Rattle.std.proofs.lemmas.List.{length-drop, length-take}
use Rattle.td_top.proofs.Streams.{wrote_more}
use Rattle.td_top.proofs.stream.write_all.Goals as goal

pub loop-at-preserved : goal.loop-at-preserved
loop-at-preserved g c = record {
  wrote = wrote_more _ _ _ c.args.text.now c.loop-at.at c.in-Ok.count c.loop-at.invariant.wrote c.in-Ok.ensures.bytes;
  calm = c.in-Ok.ensures.cause.kept ∙ c.loop-at.invariant.calm;
  within = let h = simp (length-take, length-drop) at c.in-Ok.ensures.bound.0 in omega (arith, c.loop-at.invariant.within, h);
}
