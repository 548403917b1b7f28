use Rattle.td_top.proofs.Printing.{texts_tell, bytes_tell}
use Rattle.td_top.proofs.laws.texts_tell_reports.Goals as goal

pub returns-clause-texts : goal.returns-clause-texts
returns-clause-texts c = texts_tell c.a_text_tells_its_report.ensures

pub returns-clause-bytes : goal.returns-clause-bytes
returns-clause-bytes c = bytes_tell c.a_text_tells_its_report.ensures
