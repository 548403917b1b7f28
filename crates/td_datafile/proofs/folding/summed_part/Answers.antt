use Rattle.std.proofs.Common.{List, sym, subst}
use Rattle.std.specs.Prelude.{slice_index_or}
use Rattle.td_datafile.specs.declared.format.Summary.{Summary}
use Rattle.td_datafile.specs.Sums.{no_numbers}
use Rattle.td_datafile.specs.Known.{IsSummaryOf}
use Rattle.td_datafile.specs.Folding.{IsPart}
use Rattle.td_datafile.proofs.Folds.{summary_at, summary_part}
use Rattle.td_datafile.proofs.folding.summed_part.Goals as goal

pub returns-clause-part : goal.returns-clause-part
returns-clause-part g c =
    let rows = c.args.entry.now.rows in
    let known = subst (λ (columns : List Summary). IsSummaryOf rows (slice_index_or columns c.args.column no_numbers)) (sym c.as_slice.ensures) (summary_at rows c.args.entry.now.columns c.args.column c.requires.sums) in
    let own = subst (IsSummaryOf rows) (sym c.summary_of-summary.ensures) known in
    subst IsPart (sym c.tally_of_summary.ensures) (summary_part rows c.summary_of-summary.result c.requires.few own)
