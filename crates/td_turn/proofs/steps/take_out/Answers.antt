use Rattle.std.proofs.Common.{rules, ◌∷◌, Some, sym, ap, ◌∙◌}
use Rattle.atomic_table.specs.Table.{rest}
use Rattle.td_turn.proofs.steps.take_out.Goals as goal

pub exchange-slot-requires : goal.exchange-slot-requires
exchange-slot-requires g c =
    let slot = c.requires.slot in
    (search rules, (Some slot.0, slot.1 ∙ ap (λ l. (0, Some slot.0) ∷ l) (sym (ap rest slot.1))))
