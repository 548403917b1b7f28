use Rattle.td_state.specs.Heads.{stable_head, stable_heads}
use Rattle.td_state.proofs.ToHead.{all_there, one_there}
use Rattle.td_state.proofs.to_head.stable_heads.Goals as goal

pub loop-place-preserved : goal.loop-place-preserved
loop-place-preserved c =
    one_there (stable_heads c.args.catalog.now.catalog.stables c.args.contents.now.kept.greatest.stables) c.loop-place.place c.in_ok-stable.stable c.loop-place.stables c.add.new.self
    c.in_ok-stable.ensures c.loop-place.invariant c.in_ok-add.ensures.ok

pub returns : goal.returns
returns c =
    all_there stable_head c.args.catalog.now.catalog.stables c.args.contents.now.kept.greatest.stables c.stables-place-end.result c.loop-place.place c.loop-place.stables
    c.requires c.stables-place-end.ensures c.loop-place-test.false c.loop-place.invariant
