use Rattle.td_engine.proofs.Making.{keeps_made, image_more}
use Rattle.td_engine.proofs.kept.Core.abandon_files.Goals as goal

pub returns-clause-stands : goal.returns-clause-stands
returns-clause-stands g c =
    let i = c.self.inside in
    rw (← c.self.view_is) (λ b h is. image_more (g.S.Store.told i.store) (g.S.Store.told c.abandon_all.new.store) i.tables.state.halt b h (keeps_made (g.S.Store.told i.store) (g.S.Store.told c.abandon_all.new.store) c.abandon_all.ensures.image) is)
