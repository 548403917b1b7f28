use Rattle.std.proofs.Common.{◌++◌, ap, ◌∙◌}
use Rattle.td_datafile.specs.Index.{summary_bytes}
use Rattle.td_datafile.proofs.EntryLaws.{summaries_go_on}
use Rattle.td_datafile.proofs.writing.push_summaries.Goals as goal

pub loop-column-preserved : goal.loop-column-preserved
loop-column-preserved c =
    c.in_ok-push_summary.ensures ∙ ap (λ l. l ++ summary_bytes c.summary_at.result) c.loop-column.invariant ∙ summaries_go_on c.loop-column.column c.args.rows.now c.args.index.now c.summary_at.result c.summary_at.ensures
