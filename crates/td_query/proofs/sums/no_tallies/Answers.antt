use Rattle.std.proofs.Common.{◌++◌, ◌∷◌, [], List, map, take, ap, ◌∙◌}
use Rattle.td_aggr.specs.Tallies.{empty_tally}
use Rattle.td_aggr.specs.declared.tally.Tally.{Tally}
use Rattle.td_query.proofs.SumRows.{none_more}
use Rattle.td_query.proofs.sums.no_tallies.Goals as goal

pub places-preserved : goal.places-preserved
places-preserved c =
    c.in_ok-push.ensures.items
    ∙ ap (λ (ts : List Tally). ts ++ c.unit.result ∷ []) c.places.invariant
    ∙ ap (λ (t : Tally). map (λ _. empty_tally) (take c.places.index c.args.places.now) ++ t ∷ []) c.unit.ensures.value
    ∙ none_more c.places.index c.args.places.now c.places-test.true
