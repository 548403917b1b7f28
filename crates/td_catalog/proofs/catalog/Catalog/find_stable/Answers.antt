use Rattle.std.proofs.Common.{ap, ◌∙◌, ◌+◌, position}
use Rattle.std.specs.Option.{option_map}
use Rattle.std.specs.Str.{bytes_eq}
use Rattle.indexmap.specs.IndexMap.{keys}
use Rattle.td_model.specs.Catalog.{stable_named}
use Rattle.td_catalog.proofs.Found.{stable-found}
use Rattle.td_catalog.proofs.catalog.Catalog.find_stable.Goals as goal

pub returns : goal.returns
returns c =
    c.number_at.ensures
    ∙ ap (option_map (λ i. i + 1)) (c.get_index_of.ensures.index ∙ ap (λ q. position (λ k. bytes_eq q k.items) (keys c.self.inside.stables)) c.as_slice.ensures)
    ∙ stable-found c.self.inside c.self.invariant c.args.name.now
    ∙ ap (λ k. stable_named c.args.name.now k.catalog) c.self.view_is
