-- What a head asks of a catalog, as the state has it.
use Rattle.std.proofs.Common.{ℕ, List, [], ◌∷◌}
use Rattle.std.specs.List.{AllByRecursion}
use Rattle.td_layer.specs.declared.values.Cell.{Cell}
use Rattle.td_layer.specs.declared.values.Cell.TheVariants as cell
use Rattle.td_model.specs.declared.catalog.Column.{Column}
use Rattle.td_model.specs.declared.catalog.StableDef.{StableDef}
use Rattle.td_model.specs.declared.catalog.TableDef.{TableDef}
use Rattle.td_model.specs.Catalog.{Catalog}
use Rattle.td_printed.specs.Heads as printed
use Rattle.td_state.specs.Heads as heads

name_as : (name : List ℕ) → printed.IsShortName name → heads.IsShortName name
name_as name h = record { few = h.few; named = h.named }

columns_as : (columns : List Column) → printed.AreShortNamed columns → heads.AreShortNamed columns
columns_as [] h = tt
columns_as (c ∷ cs) h = (name_as c.name h.0, columns_as cs h.1)

tag_as : (c : Cell) → printed.IsPrintableTag c → heads.IsPrintableTag c
tag_as cell.Null h = tt
tag_as (cell.Truth b) h = tt
tag_as (cell.Num n) h = tt
tag_as (cell.Frac sum count) h = tt
tag_as (cell.Str text) h = h

tags_as : (tags : List Cell) → AllByRecursion printed.IsPrintableTag tags → AllByRecursion heads.IsPrintableTag tags
tags_as [] h = tt
tags_as (t ∷ ts) h = (tag_as t h.0, tags_as ts h.1)

stables_as : (stables : List StableDef) → AllByRecursion printed.StableFitsHead stables → AllByRecursion heads.StableFitsHead stables
stables_as [] h = tt
stables_as (s ∷ ss) h = (
  record {
    name = name_as s.name h.0.name;
    columns = columns_as s.schema.columns h.0.columns;
    tags = record { some = h.0.tags.some; names = columns_as s.schema.tags h.0.tags.names };
  },
  stables_as ss h.1,
)

tables_as : (tables : List TableDef) → AllByRecursion printed.TableFitsHead tables → AllByRecursion heads.TableFitsHead tables
tables_as [] h = tt
tables_as (t ∷ ts) h = (
  record { name = name_as t.name h.0.name; columns = columns_as t.columns h.0.columns; tags = tags_as t.tags h.0.tags },
  tables_as ts h.1,
)

pub tables_heads : (c : Catalog) → printed.FitsHead c → heads.FitsHead c
tables_heads c h = record { stables = stables_as c.stables h.stables; tables = tables_as c.tables h.tables }
