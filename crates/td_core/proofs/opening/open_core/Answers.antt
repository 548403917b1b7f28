use Rattle.std.proofs.Common.{refl, ◌∙◌}
use Rattle.td_core.proofs.Covering.{opened_covers, told_active}
use Rattle.td_core.proofs.opening.open_core.Goals as goal

pub returns-in-Ok-clause-covers : goal.returns-in-Ok-clause-covers
returns-in-Ok-clause-covers g c =
    let o = c.in-Ok.ensures in
    opened_covers (g.C.Clock.readings c.args.clock) _ o.halt c.version-base.ensures (o.journal ∙ c.new-journal.ensures) c.moment-floor.ensures
    refl refl (told_active _ _ _ (o.kept.active o.halt))
