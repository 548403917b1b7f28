-- Supertables, tables and streams, by name and by number, and what an entry makes of them.
use Rattle.std.specs.Prelude.{ℕ, ◌+◌, ◌-◌, ◌==◌, not, Bool, if◌then◌else◌, List, [], ◌∷◌, ◌++◌, Option, Some, None, position, filter, slice_get}
use Rattle.std.specs.Option.{option_map}
use Rattle.std.specs.Str.{bytes_eq}
use Rattle.td_model.specs.declared.catalog.StableDef.{StableDef}
use Rattle.td_model.specs.declared.catalog.TableDef.{TableDef}
use Rattle.td_model.specs.declared.catalog.StreamEntry.{StreamEntry}
use Rattle.td_model.specs.declared.catalog.Schema.{Schema}
use Rattle.td_model.specs.declared.catalog.Column.{Column}
use Rattle.td_model.specs.declared.history.What.{What}
use Rattle.td_model.specs.declared.history.What.TheVariants as what

-- supertables and tables, each numbered from 1 in the order of their creation; the live streams in that order; and the
-- number that the next stream gets
pub record Catalog : Type 0 where
  pub stables : List StableDef
  pub tables : List TableDef
  pub streams : List StreamEntry
  pub next_stream : ℕ

abbrev pub empty_catalog : Catalog
empty_catalog = record { stables = []; tables = []; streams = []; next_stream = 1 }

-- the number of the supertable, and of the table, of a name
abbrev pub stable_named : List ℕ → Catalog → Option ℕ
stable_named name c = option_map (λ i. i + 1) (position (λ (s : StableDef). bytes_eq s.name name) c.stables)

abbrev pub table_named : List ℕ → Catalog → Option ℕ
table_named name c = option_map (λ i. i + 1) (position (λ (t : TableDef). bytes_eq t.name name) c.tables)

-- the number of the first stream that passes a test
abbrev pub first_number : (StreamEntry → Bool) → List StreamEntry → Option ℕ
first_number p [] = None
first_number p (e ∷ es) = if p e then Some e.number else first_number p es

-- the number of the live stream of a name, and of the live stream whose target has a name
abbrev pub stream_named : List ℕ → Catalog → Option ℕ
stream_named name c = first_number (λ e. bytes_eq e.def.name name) c.streams

abbrev pub target_named : List ℕ → Catalog → Option ℕ
target_named name c = first_number (λ e. bytes_eq e.def.target name) c.streams

-- the supertable, and the table, of a number
abbrev pub stable_at : ℕ → Catalog → Option StableDef
stable_at n c = slice_get c.stables (n - 1)

abbrev pub table_at : ℕ → Catalog → Option TableDef
table_at n c = slice_get c.tables (n - 1)

abbrev pub no_schema : Schema
no_schema = record { columns = []; tags = [] }

-- the schema of a supertable that may be missing
abbrev pub schema_or_none : Option StableDef → Schema
schema_or_none None = no_schema
schema_or_none (Some s) = s.schema

-- a plain table has its columns and no tags, a subtable the schema of its supertable
abbrev pub schema_by : Catalog → Option ℕ → List Column → Schema
schema_by c None columns = record { columns = columns; tags = [] }
schema_by c (Some stable) columns = schema_or_none (stable_at stable c)

abbrev pub schema_of : Catalog → TableDef → Schema
schema_of c t = schema_by c t.parent t.columns

-- the catalog after an entry
abbrev pub with_what : What → Catalog → Catalog
with_what (what.MakeStable name schema) c =
    record c { stables = c.stables ++ record { name = name; schema = schema } ∷ [] }
with_what (what.MakeTable name columns) c =
    record c { tables = c.tables ++ record { name = name; parent = None; columns = columns; tags = [] } ∷ [] }
with_what (what.MakeSub name stable tags) c =
    record c { tables = c.tables ++ record { name = name; parent = Some stable; columns = []; tags = tags } ∷ [] }
with_what (what.MakeStream def) c =
    record c {
      streams = c.streams ++ record { number = c.next_stream; def = def } ∷ [];
      next_stream = c.next_stream + 1;
    }
with_what (what.DropStream n) c = record c { streams = filter (λ (e : StreamEntry). not (e.number == n)) c.streams }
with_what (what.Put puts) c = c
with_what (what.Cut table lo hi) c = c
with_what (what.Edge edge) c = c
with_what (what.Step stream upto moment) c = c
with_what what.Halt c = c
