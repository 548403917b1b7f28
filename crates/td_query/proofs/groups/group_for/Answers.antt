use Rattle.std.proofs.Common.{inl, inr, List, length, insert, refl, ap, ◌∙◌, subst, arith}
use Rattle.std.proofs.lemmas.List.{length-map}
use Rattle.std.proofs.lemmas.List.Edits.{length-insert}
use Rattle.td_query.specs.declared.groups.Gathered.{Gathered}
use Rattle.td_query.specs.Read.{parts_of, made_group, StandsAt, GoesTo}
use Rattle.td_query.proofs.groups.group_for.Goals as goal

pub returns-in_ok-insert-in-Err : goal.returns-in_ok-insert-in-Err
returns-in_ok-insert-in-Err t c =
    let gs = c.args.groups.now.items in
    let at = c.in-Err.at in
    let made : Gathered t.row.W.Denot = made_group c.in_ok-part-in-Err.part c.args.fresh in
    let goes : GoesTo c.args.part.now (parts_of gs) at = subst (λ (l : List (Gathered t.row.W.Denot)). GoesTo c.args.part.now (parts_of l) at) c.as_slice.ensures.value c.in-Err.ensures in
    let low = goes.0 in
    let long = length-map gs (λ (x : Gathered t.row.W.Denot). x.part) in
    let one = length-insert gs at made (omega (arith, low, long)) in
    let longer = ap length c.in_ok-insert-in-Err.ensures.items in
    (omega (arith, low, long, one, longer), inr (c.in_ok-insert-in-Err.ensures.items ∙ ap (λ p. insert gs at (made_group p c.args.fresh)) c.in_ok-part-in-Err.ensures, goes))

pub returns-in-Ok : goal.returns-in-Ok
returns-in-Ok t c =
    let gs = c.args.groups.now.items in
    let at = c.in-Ok.at in
    let stands : StandsAt c.args.part.now (parts_of gs) at = subst (λ (l : List (Gathered t.row.W.Denot)). StandsAt c.args.part.now (parts_of l) at) c.as_slice.ensures.value c.in-Ok.ensures in
    let low = stands.0 in
    let long = length-map gs (λ (x : Gathered t.row.W.Denot). x.part) in
    (omega (arith, low, long), inl (refl, stands))
