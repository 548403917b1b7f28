use Rattle.std.proofs.Common.{ap, ◌∙◌}
use Rattle.std.specs.Option.{option_map}
use Rattle.std.specs.Str.{bytes_eq}
use Rattle.std.specs.Map.{lookup}
use Rattle.td_model.specs.Catalog.{stream_named}
use Rattle.td_catalog.proofs.Found.{stream_of_name}
use Rattle.td_catalog.proofs.catalog.Catalog.find_stream.Goals as goal

pub returns : goal.returns
returns c =
    c.number_of.ensures
    ∙ ap (option_map (λ e. e.number)) (c.get.ensures.value ∙ ap (λ q. lookup (λ k. bytes_eq q k.items) c.self.inside.streams.entries) c.as_slice.ensures)
    ∙ stream_of_name c.self.inside c.self.invariant c.args.name.now
    ∙ ap (λ k. stream_named c.args.name.now k.catalog) c.self.view_is
