use Rattle.td_report.proofs.LineFronts.{tells}
use Rattle.td_report.proofs.laws.a_text_tells_its_report.Goals as goal

pub returns : goal.returns
returns c = tells
