-- The state that a head says, but for its rows.
use Rattle.std.specs.Prelude.{◌≡◌, ℕ, List, [], map, Option, Some, None}
use Rattle.td_model.specs.declared.catalog.StableDef.{StableDef}
use Rattle.td_model.specs.declared.catalog.TableDef.{TableDef}
use Rattle.td_model.specs.Catalog.{Catalog}
use Rattle.td_model.specs.State.{State, Rows}
use Rattle.td_manifest.specs.declared.head.Head.{Head}
use Rattle.td_manifest.specs.declared.head.HeadStable.{HeadStable}
use Rattle.td_manifest.specs.declared.head.HeadTable.{HeadTable}
use Rattle.td_manifest.specs.declared.head.HeadTable.TheVariants as tables

-- a supertable, and a table, as the catalog has them
abbrev pub stable_def : HeadStable → StableDef
stable_def s = record { name = s.name; schema = s.schema }

abbrev pub table_def : HeadTable → TableDef
table_def (tables.Plain name columns latest) = record { name = name; parent = None; columns = columns; tags = [] }
table_def (tables.Sub name stable tags) = record { name = name; parent = Some stable; columns = []; tags = tags }

-- the greatest timestamp of a plain table; that of a subtable is its supertable's
abbrev pub table_latest : HeadTable → Option ℕ
table_latest (tables.Plain name columns latest) = latest
table_latest (tables.Sub name stable tags) = None

-- no stream lives so far
abbrev pub catalog_of : Head → Catalog
catalog_of h =
    record {
      stables = map stable_def h.stables;
      tables = map table_def h.tables;
      streams = [];
      next_stream = h.next_stream;
    }

-- the state of a head, with these rows
abbrev pub state_of_head : Head → Rows → State
state_of_head h rows =
    record {
      version = h.version;
      moment = h.moment;
      catalog = catalog_of h;
      stable_latest = map (λ (s : HeadStable). s.latest) h.stables;
      table_latest = map table_latest h.tables;
      rows = rows;
      edge = h.edge;
      halt = None;
    }

-- a store without a head has the empty one
abbrev pub empty_head : Head
empty_head =
    record {
      version = 0;
      moment = 0;
      first_log = 1;
      edge = 0;
      stables = [];
      tables = [];
      sets = [];
      next_stream = 1;
      streams = [];
    }
