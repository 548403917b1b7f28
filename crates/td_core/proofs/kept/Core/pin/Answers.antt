use Rattle.std.proofs.Common.{refl, rules}
use Rattle.td_core.specs.CoreState.{seen}
use Rattle.td_core.specs.Pins.{Sees}
use Rattle.td_core.proofs.Pinning.{holds_from}
use Rattle.td_core.proofs.kept.Core.pin.Goals as goal

pub returns-clause-holds : goal.returns-clause-holds
returns-clause-holds g c = λ p is b h f r.
    let sees : Sees p c.args.query.now c.args.self.now.state 0 = search rules in
    holds_from (seen g.S.Store.told g.S.Store.count g.C.Clock.readings c.args.self.now) p c.args.query.now b h 0 refl f r sees
