-- The columns and tags of a schema, in a catalog of words, have names.
use Rattle.std.proofs.Common.{ℕ, ◌-◌, List, Option, Some, None}
use Rattle.std.specs.Prelude.{IfSome}
use Rattle.std.specs.Option.{option_map}
use Rattle.td_model.specs.declared.catalog.Column.{Column}
use Rattle.td_model.specs.declared.catalog.Schema.{Schema}
use Rattle.td_model.specs.declared.catalog.StableDef.{StableDef}
use Rattle.td_model.specs.Catalog.{Catalog, table_at, stable_at, table_named, stable_named, schema_of, schema_by, schema_or_none, no_schema}
use Rattle.td_verdict.specs.Names.{table_schema, stable_schema, column_named, is_named}
use Rattle.td_verdict.specs.Fields.{fields}
use Rattle.td_verdict.specs.Queries.{source_by, source_schema, schema_from}
use Rattle.td_printed.specs.Names.{IsName, AreNamed, StableHasWords, TableHasWords, AreWords}
use Rattle.td_printed.proofs.Says.{all_append}
use Rattle.td_printed.proofs.Lists.{if_mapped, either_value, if_at, if_found}

pub record SchemaHasWords (s : Schema) : Type 0 where
  pub columns : AreNamed s.columns
  pub tags : AreNamed s.tags

none_named : SchemaHasWords no_schema
none_named = record { columns = tt; tags = tt }

or_none_named : (o : Option StableDef) → IfSome o StableHasWords → SchemaHasWords (schema_or_none o)
or_none_named None h = none_named
or_none_named (Some s) h = record { columns = h.columns; tags = h.tags }

by_named : (c : Catalog) (parent : Option ℕ) (columns : List Column) → AreWords c → AreNamed columns
    → SchemaHasWords (schema_by c parent columns)
by_named c None columns words h = record { columns = h; tags = tt }
by_named c (Some stable) columns words h = or_none_named (stable_at stable c)
    (if_at StableHasWords c.stables (stable - 1) words.stables)

pub table_named_schema : (c : Catalog) (n : Option ℕ) → AreWords c → SchemaHasWords (table_schema n c)
table_named_schema c None words = none_named
table_named_schema c (Some n) words = either_value SchemaHasWords (option_map (schema_of c) (table_at n c)) no_schema
    (if_mapped TableHasWords SchemaHasWords (schema_of c) (table_at n c)
    (λ t h. by_named c t.parent t.columns words h.columns) (if_at TableHasWords c.tables (n - 1) words.tables))
    none_named

pub stable_named_schema : (c : Catalog) (n : Option ℕ) → AreWords c → SchemaHasWords (stable_schema n c)
stable_named_schema c None words = none_named
stable_named_schema c (Some n) words = either_value SchemaHasWords
    (option_map (λ (s : StableDef). s.schema) (stable_at n c)) no_schema
    (if_mapped StableHasWords SchemaHasWords (λ (s : StableDef). s.schema) (stable_at n c)
    (λ s h. record { columns = h.columns; tags = h.tags })
    (if_at StableHasWords c.stables (n - 1) words.stables))
    none_named

pub source_named_schema : (c : Catalog) (source : List ℕ) → AreWords c → SchemaHasWords (source_schema source c)
source_named_schema c source words = by (table_named source c) (stable_named source c)
  where
    by : (t s : Option ℕ) → SchemaHasWords (schema_from (source_by t s) c)
    by (Some n) s = table_named_schema c (Some n) words
    by None (Some n) = stable_named_schema c (Some n) words
    by None None = none_named

pub fields_named : (s : Schema) → SchemaHasWords s → AreNamed (fields s)
fields_named s h = all_append _ s.columns s.tags h.columns h.tags

pub found_named : (columns : List Column) (name : List ℕ) → AreNamed columns
    → IfSome (column_named columns name) (λ (c : Column). IsName c.name)
found_named columns name h = if_found _ (is_named name) columns h
