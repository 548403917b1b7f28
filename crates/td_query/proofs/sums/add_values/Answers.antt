use Rattle.std.proofs.Common.{◌≡◌, ◌-◌, ◌^◌, List, None, length, get_or, slice_set, sym, ap, ◌∙◌, subst, arith, add-one}
use Rattle.td_aggr.specs.declared.tally.Tally.{Tally}
use Rattle.td_query.specs.Planned.{keyed}
use Rattle.td_query.specs.Sums.{with_value, IsCounted}
use Rattle.td_query.proofs.SumRows.{partly, length-partly, get-partly, set-partly, all-partly, counted_one}
use Rattle.td_query.proofs.sums.add_values.Goals as goal

pub tally_at-tally-requires : goal.tally_at-tally-requires
tally_at-tally-requires c =
    let long = ap length (c.as_slice.ensures ∙ c.places.invariant) ∙ length-partly (with_value (keyed c.args.table (c.args.ts, c.args.row.now))) c.places.at c.args.places.now c.args.tallies.now in
    let test = c.places-test.true in
    let end = c.min-end.ensures in
    let len = c.len.ensures in
    omega (arith, long, test, end, len)

pub with_value-next-requires-clause-counted : goal.with_value-next-requires-clause-counted
with_value-next-requires-clause-counted c =
    let f = with_value (keyed c.args.table (c.args.ts, c.args.row.now)) in
    let places = c.args.places.now in
    let old = c.args.tallies.now in
    let at = c.places.at in
    let t = c.tally_at-tally.result in
    let test = c.places-test.true in
    let end = c.min-end.ensures in
    let len = c.len.ensures in
    let here : t ≡ get_or old at t =
    c.tally_at-tally.ensures ∙ ap (λ (l : List Tally). get_or l at t) (c.as_slice.ensures ∙ c.places.invariant) ∙ get-partly f at places old t (omega (arith, test, end)) (omega (arith, test, end, len)) in
    subst (λ (x : Tally). IsCounted (2 ^ 62 - 2) x) (sym here) (counted_one (2 ^ 62 - 2) old at t c.requires.counted (omega (arith, test, end, len)))

pub set-requires : goal.set-requires
set-requires c =
    let long = ap length c.places.invariant ∙ length-partly (with_value (keyed c.args.table (c.args.ts, c.args.row.now))) c.places.at c.args.places.now c.args.tallies.now in
    let test = c.places-test.true in
    let end = c.min-end.ensures in
    let len = c.len.ensures in
    omega (arith, long, test, end, len)

pub places-preserved : goal.places-preserved
places-preserved c =
    let f = with_value (keyed c.args.table (c.args.ts, c.args.row.now)) in
    let places = c.args.places.now in
    let old = c.args.tallies.now in
    let at = c.places.at in
    let t = c.tally_at-tally.result in
    let test = c.places-test.true in
    let end = c.min-end.ensures in
    let len = c.len.ensures in
    let here : t ≡ get_or old at t =
    c.tally_at-tally.ensures ∙ ap (λ (l : List Tally). get_or l at t) (c.as_slice.ensures ∙ c.places.invariant) ∙ get-partly f at places old t (omega (arith, test, end)) (omega (arith, test, end, len)) in
    c.set.ensures
    ∙ ap (slice_set c.places.tallies at) (c.with_value-next.ensures ∙ ap (f (get_or places at None)) here)
    ∙ ap (λ l. slice_set l at (f (get_or places at None) (get_or old at t))) c.places.invariant
    ∙ set-partly f at places old None t (omega (arith, test, end)) (omega (arith, test, end, len))
    ∙ ap (λ n. partly f n places old) (sym (add-one at))

pub returns : goal.returns
returns c =
    c.places.invariant ∙ all-partly (with_value (keyed c.args.table (c.args.ts, c.args.row.now))) c.places.at c.args.places.now c.args.tallies.now (omega arith)
