use Rattle.std.proofs.Common.{◌<◌, [], ◌∷◌, length, refl, sym, ap, ◌∙◌, subst}
use Rattle.td_outside.specs.Image.{Log}
use Rattle.td_outside.specs.Logs.{after_write}
use Rattle.td_memdev.proofs.Gates.{gate_is}
use Rattle.td_memdev.proofs.logs.MemLog.open_gate.Goals as goal

pub returns : goal.returns
returns c =
    let within = subst (λ (log : Log). c.args.at < length log.bytes) (sym c.self.view_is) c.requires in
    gate_is _ c.args.at _ _ within refl c.widened_range-self-inside.ensures ∙ ap (λ log. after_write c.args.at (1 ∷ []) log) c.self.view_is
