use Rattle.std.proofs.Common.{map, ◌∙◌}
use Rattle.std.specs.Prelude.{sum}
use Rattle.td_engine.specs.CoreState.{seen}
use Rattle.td_committing.proofs.Ends.{taken_back}
use Rattle.td_committing.proofs.Points.{over_store}
use Rattle.td_committing.proofs.commits.give_up.Goals as goal

pub returns : goal.returns
returns g c =
    let s = seen g.S.Store.told g.S.Store.count g.C.Clock.readings in
    let e = c.abandon_files.ensures in
    let points = over_store (s c.args.core.now) (s c.abandon_files.new.self) e.same e.rows e.pinned e.stands in
    taken_back (s c.args.core.now) (s c.abandon_files.new.self) (s c.thaw.new.self) c.args.frozen (sum (map g.S.Writer.Writer.count c.args.files)) c.requires e.same e.image points e.count (c.thaw.ensures.home (e.same.flight ∙ c.requires.home))
