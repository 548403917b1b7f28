use Rattle.std.proofs.Common.{sym, ap, ◌∙◌}
use Rattle.td_fileset.specs.Sources.{Fed}
use Rattle.td_fileset.proofs.Laid.{laid_values}
use Rattle.td_fileset.proofs.source.Source.act.Goals as goal

pub returns-in-Equal-clause-values : goal.returns-in-Equal-clause-values
returns-in-Equal-clause-values g c =
    laid_values c.args.self.now.ahead c.in-First.first c.in-First.partial c.cut_at.result c.args.row c.under_cut-under.result c.in_ok-laid.laid
    (sym (ap (λ (f : Fed). f.ahead) c.self.view_is) ∙ c.in-First.is) c.requires.settled.values c.requires.values c.under_cut-under.ensures c.in_ok-laid.ensures
