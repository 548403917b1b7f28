-- Names of tables, supertables and targets, which share one space, and names within a statement.
use Rattle.std.specs.Prelude.{ℕ, Bool, true, false, not, ◌||◌, List, [], ◌∷◌, map, Option, Some, None, is_some}
use Rattle.std.specs.Str.{bytes_eq}
use Rattle.std.specs.List.{list_any, find}
use Rattle.std.specs.Option.{option_map, unwrap_or}
use Rattle.td_cols.specs.declared.kinds.Kind.{Kind}
use Rattle.td_cols.specs.declared.kinds.Kind.TheVariants.{Time}
use Rattle.td_model.specs.declared.catalog.Column.{Column}
use Rattle.td_model.specs.declared.catalog.Schema.{Schema}
use Rattle.td_model.specs.Catalog.{Catalog, stable_named, table_named, stream_named, target_named, table_at, stable_at, no_schema, schema_of}

-- whether a name is one of a table, of a supertable, of a stream's target, and of one of these three
abbrev pub is_table : List ℕ → Catalog → Bool
is_table name c = is_some (table_named name c)

abbrev pub is_stable : List ℕ → Catalog → Bool
is_stable name c = is_some (stable_named name c)

abbrev pub is_target : List ℕ → Catalog → Bool
is_target name c = is_some (target_named name c)

abbrev pub is_taken : List ℕ → Catalog → Bool
is_taken name c = is_table name c || is_stable name c || is_target name c

-- whether a name is a live stream's, which have a space of their own
abbrev pub is_stream : List ℕ → Catalog → Bool
is_stream name c = is_some (stream_named name c)

-- a number that is found, or 0
abbrev pub number_or_none : Option ℕ → ℕ
number_or_none found = unwrap_or found 0

-- the schema of the table of a number, and of the supertable of a number, that may be missing
abbrev pub table_schema : Option ℕ → Catalog → Schema
table_schema None c = no_schema
table_schema (Some n) c = unwrap_or (option_map (schema_of c) (table_at n c)) no_schema

abbrev pub stable_schema : Option ℕ → Catalog → Schema
stable_schema None c = no_schema
stable_schema (Some n) c = unwrap_or (option_map (λ s. s.schema) (stable_at n c)) no_schema

-- whether a name stands twice
abbrev pub stands_twice : List (List ℕ) → Bool
stands_twice [] = false
stands_twice (name ∷ names) = list_any (bytes_eq name) names || stands_twice names

-- the names of columns
abbrev pub names_of : List Column → List (List ℕ)
names_of columns = map (λ (c : Column). c.name) columns

-- whether a column has a name, and the column of a name
abbrev pub is_named : List ℕ → Column → Bool
is_named name c = bytes_eq c.name name

abbrev pub column_named : List Column → List ℕ → Option Column
column_named columns name = find (is_named name) columns

-- the first column, which is the timestamp, has a name
abbrev pub is_first : List Column → List ℕ → Bool
is_first [] name = false
is_first (c ∷ cs) name = is_named name c

abbrev pub is_time : Kind → Bool
is_time Time = true
is_time _ = false

-- the first column isn't a timestamp
abbrev pub lacks_time : List Column → Bool
lacks_time [] = true
lacks_time (c ∷ cs) = not (is_time c.kind)
