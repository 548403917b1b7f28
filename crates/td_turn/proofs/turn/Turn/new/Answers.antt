use Rattle.std.proofs.Common.{List, [], ◌∷◌, Option, sym, ap, subst}
use Rattle.atomic_table.specs.Table.{opening}
use Rattle.td_turn.specs.Views.{opening_view}
use Rattle.td_turn.proofs.Seats.{K, opens}
use Rattle.td_turn.proofs.turn.Turn.new.Goals as goal

pub new-requires : goal.new-requires
new-requires g c =
    let base_of = g.V.Turned.base in
    let first_of = g.V.Turned.first in
    let list_of = g.V.Turned.list in
    let base = base_of c.of-about.result.value in
    subst (λ (slots : List (Option g.row.V.Denot)). K base_of first_of list_of base (opening (0 ∷ 0 ∷ 0 ∷ []) slots (opening_view base))) (sym c.in-Ok.ensures.ok)
    (opens base_of first_of list_of base c.args.value (ap base_of (sym c.of-about.ensures)) c.requires.empty)
