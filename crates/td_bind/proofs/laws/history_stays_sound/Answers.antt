use Rattle.td_bind.proofs.Steps.{history_sound}
use Rattle.td_bind.proofs.laws.history_stays_sound.Goals as goal

pub returns : goal.returns
returns c = λ b h sound legal. history_sound b h sound legal
