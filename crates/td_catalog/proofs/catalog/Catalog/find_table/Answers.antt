use Rattle.std.proofs.Common.{ap, ◌∙◌, ◌+◌, position}
use Rattle.std.specs.Option.{option_map}
use Rattle.std.specs.Str.{bytes_eq}
use Rattle.indexmap.specs.IndexMap.{keys}
use Rattle.td_model.specs.Catalog.{table_named}
use Rattle.td_catalog.proofs.Found.{table-found}
use Rattle.td_catalog.proofs.catalog.Catalog.find_table.Goals as goal

pub returns : goal.returns
returns c =
    c.number_at.ensures
    ∙ ap (option_map (λ i. i + 1)) (c.get_index_of.ensures.index ∙ ap (λ q. position (λ k. bytes_eq q k.items) (keys c.self.inside.tables)) c.as_slice.ensures)
    ∙ table-found c.self.inside c.self.invariant c.args.name.now
    ∙ ap (λ k. table_named c.args.name.now k.catalog) c.self.view_is
