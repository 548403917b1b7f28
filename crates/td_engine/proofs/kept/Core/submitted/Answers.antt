use Rattle.std.proofs.Common.{ap}
use Rattle.td_engine.specs.CoreState.{seen}
use Rattle.td_engine.proofs.Entering.{submits_from}
use Rattle.td_engine.proofs.kept.Core.submitted.Goals as goal

pub returns-in-Ok : goal.returns-in-Ok
returns-in-Ok g c =
    let told = g.S.Store.told in
    let old = seen told g.S.Store.count g.C.Clock.readings c.args.self.now in
    let mid = seen told g.S.Store.count g.C.Clock.readings c.take_moment-moment.new.self in
    let new = seen told g.S.Store.count g.C.Clock.readings c.enter.new.self in
    submits_from old mid new c.take_moment-moment.result (g.C.Clock.readings c.take_moment-moment.new.self.clock) c.args.session c.args.ordinal c.take_moment-moment.result c.args.stmt.now c.in-Ok.submitted (ap (seen told g.S.Store.count g.C.Clock.readings) c.take_moment-moment.ensures.rest) c.take_moment-moment.ensures.takes c.take_moment-moment.ensures.moment
    c.in-Ok.ensures.floor (ap g.C.Clock.readings c.in-Ok.ensures.clock) c.in-Ok.ensures.answers
