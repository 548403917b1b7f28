use Rattle.std.proofs.Common.{◌≡◌, List, length, get_or, slice_set, sym, ap, ◌∙◌, subst, arith, add-one}
use Rattle.td_aggr.specs.Tallies.{empty_tally, merged}
use Rattle.td_aggr.specs.declared.tally.Tally.{Tally}
use Rattle.td_query.specs.Sums.{IsCounted}
use Rattle.td_query.proofs.SumRows.{partly, length-partly, get-partly, set-partly, all-partly, counted_one}
use Rattle.td_query.proofs.sums.join_tallies.Goals as goal

pub tally_at-tally-requires : goal.tally_at-tally-requires
tally_at-tally-requires c =
    let long = ap length (c.as_slice.ensures ∙ c.tallies.invariant) ∙ length-partly merged c.tallies.at c.args.fronts.now c.args.tallies.now in
    let test = c.tallies-test.true in
    let end = c.min-end.ensures in
    let len = c.len.ensures in
    omega (arith, long, test, end, len)

pub merge-next-requires-clause-left : goal.merge-next-requires-clause-left
merge-next-requires-clause-left c =
    let old = c.args.tallies.now in
    let fronts = c.args.fronts.now in
    let at = c.tallies.at in
    let t = c.tally_at-tally.result in
    let test = c.tallies-test.true in
    let end = c.min-end.ensures in
    let len = c.len.ensures in
    let here : t ≡ get_or old at t =
    c.tally_at-tally.ensures ∙ ap (λ (l : List Tally). get_or l at t) (c.as_slice.ensures ∙ c.tallies.invariant) ∙ get-partly merged at fronts old t (omega (arith, test, end)) (omega (arith, test, end, len)) in
    let right : IsCounted c.args.rows t = subst (λ (x : Tally). IsCounted c.args.rows x) (sym here) (counted_one c.args.rows old at t c.requires.tallies (omega (arith, test, end, len))) in
    let left : IsCounted c.args.most (get_or fronts at empty_tally) = counted_one c.args.most fronts at empty_tally c.requires.fronts (omega (arith, test, end)) in
    left.sound

pub merge-next-requires-clause-right : goal.merge-next-requires-clause-right
merge-next-requires-clause-right c =
    let old = c.args.tallies.now in
    let fronts = c.args.fronts.now in
    let at = c.tallies.at in
    let t = c.tally_at-tally.result in
    let test = c.tallies-test.true in
    let end = c.min-end.ensures in
    let len = c.len.ensures in
    let here : t ≡ get_or old at t =
    c.tally_at-tally.ensures ∙ ap (λ (l : List Tally). get_or l at t) (c.as_slice.ensures ∙ c.tallies.invariant) ∙ get-partly merged at fronts old t (omega (arith, test, end)) (omega (arith, test, end, len)) in
    let right : IsCounted c.args.rows t = subst (λ (x : Tally). IsCounted c.args.rows x) (sym here) (counted_one c.args.rows old at t c.requires.tallies (omega (arith, test, end, len))) in
    let left : IsCounted c.args.most (get_or fronts at empty_tally) = counted_one c.args.most fronts at empty_tally c.requires.fronts (omega (arith, test, end)) in
    right.sound

pub merge-next-requires-clause-room : goal.merge-next-requires-clause-room
merge-next-requires-clause-room c =
    let old = c.args.tallies.now in
    let fronts = c.args.fronts.now in
    let at = c.tallies.at in
    let t = c.tally_at-tally.result in
    let test = c.tallies-test.true in
    let end = c.min-end.ensures in
    let len = c.len.ensures in
    let here : t ≡ get_or old at t =
    c.tally_at-tally.ensures ∙ ap (λ (l : List Tally). get_or l at t) (c.as_slice.ensures ∙ c.tallies.invariant) ∙ get-partly merged at fronts old t (omega (arith, test, end)) (omega (arith, test, end, len)) in
    let right : IsCounted c.args.rows t = subst (λ (x : Tally). IsCounted c.args.rows x) (sym here) (counted_one c.args.rows old at t c.requires.tallies (omega (arith, test, end, len))) in
    let left : IsCounted c.args.most (get_or fronts at empty_tally) = counted_one c.args.most fronts at empty_tally c.requires.fronts (omega (arith, test, end)) in
    let few = c.requires.few in
    let a = left.rows in
    let b = right.rows in
    let d = left.count in
    let e = right.count in
    record { rows = omega (arith, few, a, b); count = omega (arith, few, d, e) }

pub set-requires : goal.set-requires
set-requires c =
    let long = ap length c.tallies.invariant ∙ length-partly merged c.tallies.at c.args.fronts.now c.args.tallies.now in
    let test = c.tallies-test.true in
    let end = c.min-end.ensures in
    let len = c.len.ensures in
    omega (arith, long, test, end, len)

pub tallies-preserved : goal.tallies-preserved
tallies-preserved c =
    let old = c.args.tallies.now in
    let fronts = c.args.fronts.now in
    let at = c.tallies.at in
    let t = c.tally_at-tally.result in
    let test = c.tallies-test.true in
    let end = c.min-end.ensures in
    let len = c.len.ensures in
    let here : t ≡ get_or old at t =
    c.tally_at-tally.ensures ∙ ap (λ (l : List Tally). get_or l at t) (c.as_slice.ensures ∙ c.tallies.invariant) ∙ get-partly merged at fronts old t (omega (arith, test, end)) (omega (arith, test, end, len)) in
    let right : IsCounted c.args.rows t = subst (λ (x : Tally). IsCounted c.args.rows x) (sym here) (counted_one c.args.rows old at t c.requires.tallies (omega (arith, test, end, len))) in
    let left : IsCounted c.args.most (get_or fronts at empty_tally) = counted_one c.args.most fronts at empty_tally c.requires.fronts (omega (arith, test, end)) in
    c.set.ensures
    ∙ ap (slice_set c.tallies.tallies at) (c.merge-next.ensures.value ∙ ap (merged (get_or fronts at empty_tally)) here)
    ∙ ap (λ l. slice_set l at (merged (get_or fronts at empty_tally) (get_or old at t))) c.tallies.invariant
    ∙ set-partly merged at fronts old empty_tally t (omega (arith, test, end)) (omega (arith, test, end, len))
    ∙ ap (λ n. partly merged n fronts old) (sym (add-one at))

pub returns : goal.returns
returns c = c.tallies.invariant ∙ all-partly merged c.tallies.at c.args.fronts.now c.args.tallies.now (omega arith)
