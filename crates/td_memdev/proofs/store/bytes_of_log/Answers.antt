use Rattle.std.proofs.Common.{Option, sym, ap, ◌∙◌}
use Rattle.std.specs.Option.{option_map}
use Rattle.td_outside.specs.Image.{Log}
use Rattle.td_memdev.proofs.Changes.{log_is}
use Rattle.td_memdev.proofs.store.bytes_of_log.Goals as goal

pub returns-in_ok-bytes-in-Some : goal.returns-in_ok-bytes-in-Some
returns-in_ok-bytes-in-Some c =
    c.in_ok-bytes-in-Some.ensures ∙ ap (λ (o : Option Log). option_map (λ (l : Log). l.bytes) o) (sym (log_is c.args.logs.now c.args.log c.in-Some.place c.in-Some.ensures.found c.index-logs-place.result c.index-logs-place.is))
