use Rattle.td_printed.proofs.Reports.{report_prints}
use Rattle.td_printed.proofs.laws.told_reports_are_printable.Goals as goal

pub returns : goal.returns
returns c = report_prints
