use Rattle.std.proofs.Common.{ap, ◌∙◌}
use Rattle.std.specs.Str.{bytes_eq}
use Rattle.std.specs.Map.{lookup}
use Rattle.td_model.specs.Catalog.{target_named}
use Rattle.td_catalog.proofs.Found.{stream_of_target}
use Rattle.td_catalog.proofs.catalog.Catalog.find_target.Goals as goal

pub returns : goal.returns
returns c =
    c.copied.ensures
    ∙ (c.get.ensures.value ∙ ap (λ q. lookup (λ k. bytes_eq q k.items) c.self.inside.targets.entries) c.as_slice.ensures)
    ∙ stream_of_target c.self.inside c.self.invariant c.args.name.now
    ∙ ap (λ k. target_named c.args.name.now k.catalog) c.self.view_is
