use Rattle.std.proofs.Common.{◌+◌, ◌∙◌, ap}
use Rattle.td_state.proofs.Subtables.{next_absent}
use Rattle.td_state.proofs.contents.Contents.prepare.Goals as goal

pub prepare-requires : goal.prepare-requires
prepare-requires c = next_absent c.args.catalog.now.catalog c.self.inside.index.subtables (c.tables.result + 1) (ap (λ h. h.kept.subtables) c.self.view_is ∙ c.requires.subtables) (ap (λ n. n + 1) c.tables.ensures)
