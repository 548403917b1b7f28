use Rattle.std.proofs.Common.{Some, ap, sym, ◌∙◌, arith}
use Rattle.std.proofs.lemmas.Option.{slice_get-get_or}
use Rattle.std.proofs.lemmas.List.{length-map}
use Rattle.td_query.specs.declared.groups.Gathered.{Gathered}
use Rattle.td_verdict.specs.Parts.{part_cmp}
use Rattle.td_query.specs.Read.{parts_of}
use Rattle.td_query.proofs.Grouping.{stands, goes_before, goes_last, one_more, part_at}
use Rattle.td_query.proofs.groups.place_for.Goals as goal

pub returns-in-Equal : goal.returns-in-Equal
returns-in-Equal t c =
    let gs = c.args.groups.now in
    let at = c.groups.at in
    let g = c.index-groups-at.result in
    let long = length-map gs (λ (x : Gathered t.row.W.Denot). x.part) in
    let here = part_at gs at g (slice_get-get_or gs at g c.groups-test.true ∙ ap Some (sym c.index-groups-at.is)) in
    let test = c.groups-test.true in
    let same = ap (λ (y : Gathered t.row.W.Denot). part_cmp c.args.part.now y.part) c.index-groups-at.is ∙ ap (part_cmp c.args.part.now) (sym c.as_slice-in-groups.ensures) ∙ ap (λ p. part_cmp p c.as_slice-in-groups.result.now) (sym c.as_slice.ensures) ∙ sym c.part_order.ensures ∙ c.in-Equal.is in
    stands c.args.part.now (parts_of gs) at c.groups.invariant.0 g.part (omega (arith, long, test)) here same

pub groups-preserved : goal.groups-preserved
groups-preserved t c =
    let gs = c.args.groups.now in
    let at = c.groups.at in
    let g = c.index-groups-at.result in
    let long = length-map gs (λ (x : Gathered t.row.W.Denot). x.part) in
    let here = part_at gs at g (slice_get-get_or gs at g c.groups-test.true ∙ ap Some (sym c.index-groups-at.is)) in
    let test = c.groups-test.true in
    let same = ap (λ (y : Gathered t.row.W.Denot). part_cmp c.args.part.now y.part) c.index-groups-at.is ∙ ap (part_cmp c.args.part.now) (sym c.as_slice-in-groups.ensures) ∙ ap (λ p. part_cmp p c.as_slice-in-groups.result.now) (sym c.as_slice.ensures) ∙ sym c.part_order.ensures ∙ c.in-Greater.is in
    (one_more c.args.part.now (parts_of gs) at g.part c.groups.invariant.0 here same, omega arith)

pub returns-after-groups : goal.returns-after-groups
returns-after-groups t c =
    let gs = c.args.groups.now in
    let long = length-map gs (λ (x : Gathered t.row.W.Denot). x.part) in
    let end = c.groups.invariant.1 in
    goes_last c.args.part.now (parts_of gs) c.groups.at c.groups.invariant.0 (omega (arith, long))

pub returns-in-Less : goal.returns-in-Less
returns-in-Less t c =
    let gs = c.args.groups.now in
    let at = c.groups.at in
    let g = c.index-groups-at.result in
    let long = length-map gs (λ (x : Gathered t.row.W.Denot). x.part) in
    let here = part_at gs at g (slice_get-get_or gs at g c.groups-test.true ∙ ap Some (sym c.index-groups-at.is)) in
    let test = c.groups-test.true in
    let same = ap (λ (y : Gathered t.row.W.Denot). part_cmp c.args.part.now y.part) c.index-groups-at.is ∙ ap (part_cmp c.args.part.now) (sym c.as_slice-in-groups.ensures) ∙ ap (λ p. part_cmp p c.as_slice-in-groups.result.now) (sym c.as_slice.ensures) ∙ sym c.part_order.ensures ∙ c.in-Less.is in
    goes_before c.args.part.now (parts_of gs) at c.groups.invariant.0 g.part (omega (arith, long, test)) here same
