use Rattle.std.proofs.Common.{rules, ◌+◌, length, ap, ◌∙◌}
use Rattle.td_turn.specs.Views.{counted_view}
use Rattle.td_turn.specs.Rule.{list_in, first_if}
use Rattle.td_turn.proofs.Keeps.{counts, holding}
use Rattle.td_turn.proofs.steps.count.Goals as goal

pub fetch_add-requires : goal.fetch_add-requires
fetch_add-requires g c =
    let me = c.args.seat.now.me in
    let held = holding me.0.stage c.requires.holder.0 in
    let more = c.requires.list in (
      search rules,
      search rules,
      counts g.V.Turned.base g.V.Turned.first g.V.Turned.list _ _ _ _ me held.0 c.args.like.now.value more.0 held.1 c.requires.holder.1 c.requires.base c.requires.slot more.1 more.2
          c.requires.room,
    )

pub returns-clause-counted : goal.returns-clause-counted
returns-clause-counted g c =
    let me = c.args.seat.now.me in
    let front = ap (λ b. first_if g.V.Turned.base g.V.Turned.first g.V.Turned.list b + length me.0.seen) c.requires.base in
    let list = ap (list_in g.V.Turned.base g.V.Turned.first g.V.Turned.list) c.requires.slot in
    c.fetch_add.ensures.2.0 ∙ (λ i. counted_view (front i) c.args.entries (list i) me.0)
