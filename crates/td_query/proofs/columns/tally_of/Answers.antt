use Rattle.std.proofs.Common.{◌++◌, ◌∷◌, [], List, cond, take, sym, ap, ◌∙◌, subst, arith}
use Rattle.std.proofs.lemmas.List.{take_more, length-take}
use Rattle.td_aggr.specs.Tallies.{IsSound, merged, tally_of, tally_of_row}
use Rattle.td_aggr.specs.declared.tally.Tally.{Tally}
use Rattle.td_query.specs.Cuts.{is_kept, kept_rows, values}
use Rattle.td_verdict.specs.Windowed.{Keyed, value_at}
use Rattle.td_query.proofs.Tallied.{sound_so_far, rows_so_far, count_so_far, good_take, one_more}
use Rattle.td_query.proofs.columns.tally_of.Goals as goal

pub tally_more-tally-requires-clause-sound : goal.tally_more-tally-requires-clause-sound
tally_more-tally-requires-clause-sound c =
    subst (λ (t : Tally). IsSound t) (sym c.rows.invariant) (sound_so_far c.args.place c.args.kept (take c.rows.entry-index c.args.rows.now) (good_take c.rows.entry-index c.args.rows.now c.requires.good))

pub tally_more-tally-requires-clause-rows : goal.tally_more-tally-requires-clause-rows
tally_more-tally-requires-clause-rows c =
    let same = ap (λ (t : Tally). t.rows) c.rows.invariant in
    let low = rows_so_far c.args.place c.args.kept (take c.rows.entry-index c.args.rows.now) in
    let long = length-take c.rows.entry-index c.args.rows.now in
    let few = c.requires.few in
    omega (arith, same, low, long, few)

pub tally_more-tally-requires-clause-count : goal.tally_more-tally-requires-clause-count
tally_more-tally-requires-clause-count c =
    let same = ap (λ (t : Tally). t.count) c.rows.invariant in
    let low = count_so_far c.args.place c.args.kept (take c.rows.entry-index c.args.rows.now) in
    let long = length-take c.rows.entry-index c.args.rows.now in
    let few = c.requires.few in
    omega (arith, same, low, long, few)

pub rows-preserved : goal.rows-preserved
rows-preserved c =
    let place = c.args.place in
    let kept = c.args.kept in
    let rows = c.args.rows.now in
    let i = c.rows.entry-index in
    let e = c.entry-item.result in
    c.tally_more-tally.ensures
    ∙ ap (λ (t : Tally). cond (is_kept kept e) (merged t (tally_of_row (value_at place e) e.0)) t) c.rows.invariant
    ∙ one_more place kept (take i rows) e
    ∙ ap (λ (l : List Keyed). tally_of (values place (kept_rows kept l))) (sym (take_more rows i e c.rows-test.true ∙ ap (λ x. take i rows ++ x ∷ []) (sym c.entry-item.is)))
