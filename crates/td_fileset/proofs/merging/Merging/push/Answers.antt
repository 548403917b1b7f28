use Rattle.std.proofs.Common.{ap, ◌∙◌}
use Rattle.td_fileset.specs.Merged.{merged, on_top}
use Rattle.td_fileset.proofs.Pushed.{pushed}
use Rattle.td_fileset.proofs.merging.Merging.push.Goals as goal

pub returns-in_default-clause-ok : goal.returns-in_default-clause-ok
returns-in_default-clause-ok g c =
    ap merged c.in_default.ensures.items
    ∙ pushed c.self.inside.sources.items c.new.result c.new.ensures.waits
    ∙ (λ i. on_top (c.new.ensures.layer i) (c.new.ensures.damaged i) (c.new.ensures.reads i) (c.new.ensures.count i) (c.self.view_is i))
