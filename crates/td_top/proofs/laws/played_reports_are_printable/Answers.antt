use Rattle.td_top.proofs.Printing.{plays_print}
use Rattle.td_top.proofs.laws.played_reports_are_printable.Goals as goal

pub returns : goal.returns
returns c = plays_print
