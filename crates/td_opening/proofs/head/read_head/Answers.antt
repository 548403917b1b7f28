use Rattle.std.proofs.Common.{◌∙◌, ap}
use Rattle.td_manifest.specs.declared.head.Head.{Head}
use Rattle.td_manifest.specs.Heads.{head_body}
use Rattle.td_opening.proofs.Numbered.{empty_fits}
use Rattle.td_opening.proofs.head.read_head.Goals as goal

pub returns-in-None-clause-fits : goal.returns-in-None-clause-fits
returns-in-None-clause-fits g c = ap (λ (h : Head). head_body.fits h) c.empty_head.ensures ∙ empty_fits
