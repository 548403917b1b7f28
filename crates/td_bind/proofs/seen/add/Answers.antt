use Rattle.std.proofs.Common.{◌∙◌, ap, not}
use Rattle.std.specs.Str.{bytes_eq}
use Rattle.std.specs.List.{list_any}
use Rattle.td_bind.specs.Seen.{texts}
use Rattle.td_bind.proofs.Twice.{among_texts}
use Rattle.td_bind.proofs.seen.add.Goals as goal

pub returns-clause-added : goal.returns-clause-added
returns-clause-added c =
    c.in_ok-added.ensures.added
    ∙ ap not (among_texts c.in_ok-key.key.items c.args.seen.now.keys)
    ∙ ap (λ q. not (list_any (bytes_eq q) (texts c.args.seen.now.keys))) (c.in_ok-key.ensures.items ∙ c.as_slice.ensures)
