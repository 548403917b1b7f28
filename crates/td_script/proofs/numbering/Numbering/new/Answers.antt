use Rattle.std.proofs.Common.{refl}
use Rattle.std.proofs.lemmas.List.{get_or-replicate}
use Rattle.td_script.proofs.numbering.Numbering.new.Goals as goal

pub returns-clause-counts : goal.returns-clause-counts
returns-clause-counts c = (refl, λ i h. get_or-replicate 64 i 0 0 h)
