use Rattle.std.proofs.Common.{◌≡◌, List, length, Some, sym, ap, ◌∙◌, subst}
use mathlib.Core.Option.{some-injective}
use mathlib.Core.List.{IsPrefix}
use Rattle.td_turn.specs.Passes.{times, versions_after}
use Rattle.td_turn.proofs.Seats.{IsLast, closes}
use Rattle.td_turn.proofs.turn.Turn.close.Goals as goal

pub unreachable-requires : goal.unreachable-requires
unreachable-requires g c =
    let seat = c.pass.inside.seat in
    let all = ap (λ p. p.parts) c.pass.view_is ∙ c.requires.whole in
    let end = closes g.V.Turned.base g.V.Turned.first g.V.Turned.list _ seat.id seat.me.0 _ _ c.pass.invariant.1 all c.close_with-closed.ensures.values.2 in
    c.in_default.not-Some end.0 (some-injective _ _ (sym c.take-slot.ensures.value ∙ end.1))

-- the value that comes back is the one at home
last : (g : Rattle.td_turn.proofs.turn.Turn.close.Given.Over) (c : goal.In-Some g)
    → IsLast g.V.Turned.base g.V.Turned.first g.V.Turned.list (g.V.Turned.base c.self.inside.table.shared.key.value) c.pass.inside.seat.me.0 c.in-Some.value
last g c =
    let seat = c.pass.inside.seat in
    let base = g.V.Turned.base c.self.inside.table.shared.key.value in
    let all = ap (λ p. p.parts) c.pass.view_is ∙ c.requires.whole in
    let end = closes g.V.Turned.base g.V.Turned.first g.V.Turned.list base seat.id seat.me.0 _ _ c.pass.invariant.1 all c.close_with-closed.ensures.values.2 in
    let found : Some end.0 ≡ c.take-slot.result = some-injective _ _ (sym end.1 ∙ c.take-slot.ensures.value) in
    let is = c.in-Some.is in
    let same : end.0 ≡ c.in-Some.value = cc (found, is) in
    subst (IsLast g.V.Turned.base g.V.Turned.first g.V.Turned.list base seat.me.0) same end.2

pub returns-clause-base : goal.returns-clause-base
returns-clause-base g c = (last g c).0 ∙ ap (λ t. t.base) c.self.view_is

pub returns-clause-seen : goal.returns-clause-seen
returns-clause-seen g c = subst (λ (l : List g.row.V-Entry.Denot). IsPrefix l (g.V.Turned.list c.in-Some.value)) (ap (λ p. p.seen) c.pass.view_is) (last g c).1

pub returns-clause-versions : goal.returns-clause-versions
returns-clause-versions g c = λ n.
    sym (ap (λ p. times n p.versions) c.pass.view_is)
    ∙ ((last g c).2 n ∙ ap (λ t. times n (versions_after (g.V.Turned.first t.base) (length (g.V.Turned.list c.in-Some.value)))) c.self.view_is)
