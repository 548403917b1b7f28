use Rattle.std.proofs.Common.{List, Option, None, ap, ◌∙◌}
use Rattle.std.specs.Prelude.{slice_index_or}
use Rattle.td_layer.specs.declared.values.Value.{Value}
use Rattle.td_aggr.specs.declared.tally.Tally.{Tally}
use Rattle.td_aggr.specs.Tallies.{tally_of_row, merged}
use Rattle.td_datafile.specs.Blocks.{key_of}
use Rattle.td_datafile.specs.Scanning.{want_of}
use Rattle.td_datafile.specs.Folding.{value_of}
use Rattle.td_datafile.proofs.Folds.{row_in, row_out}
use Rattle.td_datafile.proofs.folding.with_row.Goals as goal

pub returns-then-is_wanted-clause-tally : goal.returns-then-is_wanted-clause-tally
returns-then-is_wanted-clause-tally c =
    let want = want_of c.args.wanted.now in
    let row = c.args.row.now in
    let others = c.args.others in
    let own = c.value_at.ensures.value ∙ ap (λ (cells : List (Option Value)). value_of (slice_index_or cells c.args.column None)) c.as_slice.ensures in
    c.merge.ensures.value
    ∙ ap (λ (t : Tally). merged t others) (c.one-own.ensures.value ∙ ap (λ (v : Value). tally_of_row v (key_of want.table row)) own)
    ∙ row_in want c.args.column row others (Rattle.std.proofs.Common.sym c.is_wanted.ensures ∙ c.if-is_wanted.true)

pub returns-clause-tally : goal.returns-clause-tally
returns-clause-tally c = row_out (want_of c.args.wanted.now) c.args.column c.args.row.now c.args.others (Rattle.std.proofs.Common.sym c.is_wanted.ensures ∙ c.if-is_wanted.false)
