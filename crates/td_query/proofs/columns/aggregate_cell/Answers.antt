use Rattle.std.proofs.Common.{Bool, ℕ, Option, cond, sym, ap, ◌∙◌, subst}
use Rattle.td_aggr.specs.Aggregates.{aggregate}
use Rattle.td_aggr.specs.Laws.{shows_aggregates}
use Rattle.td_aggr.specs.Tallies.{IsSound, shown}
use Rattle.td_aggr.specs.declared.tally.Tally.{Tally}
use Rattle.td_layer.specs.declared.values.Cell.{Cell}
use Rattle.td_query.specs.Cuts.{kept_rows, values}
use Rattle.td_verdict.specs.Windowed.{column_aggregate, truth_cell}
use Rattle.td_query.proofs.Tallied.{sound_so_far}
use Rattle.td_query.proofs.columns.aggregate_cell.Goals as goal

pub cell-requires : goal.cell-requires
cell-requires c = subst (λ (t : Tally). IsSound t) (sym c.tally_of-tally.ensures) (sound_so_far c.place_of.result c.args.kept c.args.rows.now c.requires.good)

pub returns : goal.returns
returns c =
    let rows = kept_rows c.args.kept c.args.rows.now in
    let f = c.args.func in
    c.cell_as.ensures
    ∙ ap (λ (x : Cell). cond c.gives_truth.result (truth_cell x) x)
    (c.cell.ensures ∙ ap (λ (t : Tally). shown t f) c.tally_of-tally.ensures ∙ shows_aggregates f (values c.place_of.result rows) ∙ ap (λ (p : Option ℕ). aggregate f (values p rows)) c.place_of.ensures)
    ∙ ap (λ (b : Bool). cond b (truth_cell (column_aggregate c.args.columns.now f c.args.name.now rows)) (column_aggregate c.args.columns.now f c.args.name.now rows)) c.gives_truth.ensures
