-- What is kept beside a catalog, what an entry makes of it, and the part of an entry that is made before it is applied.
use Rattle.std.specs.Prelude.{◌≡◌, ℕ, ◌+◌, ◌<◌, ◌≤◌, List, [], ◌∷◌, ◌++◌, length, Option, Some, None, ⊤}
use Rattle.std.specs.List.{AllByRecursion}
use Rattle.td_limits.specs.declared.limits.TheConstants.{LAST_DAY_RANGE, LAST_TIMESTAMP, LAST_VERSION}
use Rattle.td_model.specs.declared.catalog.Column.{Column}
use Rattle.td_model.specs.declared.catalog.TableDef.{TableDef}
use Rattle.td_model.specs.declared.history.What.{What}
use Rattle.td_model.specs.declared.history.What.TheVariants as what
use Rattle.td_model.specs.Catalog.{Catalog}
use Rattle.td_model.specs.State.{State}
use Rattle.td_verdict.specs.Plans.{subtables_of}
use Rattle.td_verdict.specs.Sound.{IsSound}
use Rattle.td_tagidx.specs.Indexed.{Subtables, with_subtable, IsAbsent}
use Rattle.td_state.specs.declared.contents.Part.{Part}
use Rattle.td_state.specs.declared.contents.Part.TheVariants as part
use Rattle.td_state.specs.Latest.{Greatest, AreLatest, raised_all}

-- the subtables with their tags, the greatest timestamps that were ever put, the retention edge, and the version of the
-- halt
pub record Kept : Type 0 where
  pub subtables : Subtables
  pub greatest : Greatest
  pub edge : ℕ
  pub halt : Option ℕ

-- how many more subtables the index of tags takes without further memory, and how many more greatest timestamps of
-- supertables and of tables are taken
pub record Room : Type 0 where
  pub subtables : ℕ
  pub stables : ℕ
  pub tables : ℕ

-- what is kept, and its room
pub record ContentsHeld : Type 0 where
  pub kept : Kept
  pub room : Room

-- ---- entries

-- after an entry of a version, over the catalog before it
abbrev pub kept_after : What → ℕ → Catalog → Kept → Kept
kept_after (what.MakeStable name schema) version c k =
    record k { greatest = record k.greatest { stables = k.greatest.stables ++ None ∷ [] } }
kept_after (what.MakeTable name columns) version c k =
    record k { greatest = record k.greatest { tables = k.greatest.tables ++ None ∷ [] } }
kept_after (what.MakeSub name stable tags) version c k =
    record k {
      greatest = record k.greatest { tables = k.greatest.tables ++ None ∷ [] };
      subtables = with_subtable (length c.tables + 1, tags) k.subtables;
    }
kept_after (what.Put puts) version c k = record k { greatest = raised_all c puts k.greatest }
kept_after (what.Edge edge) version c k = record k { edge = edge }
kept_after what.Halt version c k = record k { halt = Some version }
kept_after w version c k = k

-- ---- the two steps of an entry: its part is put in its place, and the rest, which takes no memory, is noted

abbrev pub placed : Part → Kept → Kept
placed part.Nothing k = k
placed (part.Subtable change) k = record k { subtables = with_subtable change k.subtables }

abbrev pub noted : What → ℕ → Catalog → Kept → Kept
noted (what.MakeStable name schema) version c k =
    record k { greatest = record k.greatest { stables = k.greatest.stables ++ None ∷ [] } }
noted (what.MakeTable name columns) version c k =
    record k { greatest = record k.greatest { tables = k.greatest.tables ++ None ∷ [] } }
noted (what.MakeSub name stable tags) version c k =
    record k { greatest = record k.greatest { tables = k.greatest.tables ++ None ∷ [] } }
noted (what.Put puts) version c k = record k { greatest = raised_all c puts k.greatest }
noted (what.Edge edge) version c k = record k { edge = edge }
noted what.Halt version c k = record k { halt = Some version }
noted w version c k = k

-- the part of an entry over a catalog
abbrev pub part_of : What → Catalog → Part
part_of (what.MakeSub name stable tags) c = part.Subtable (length c.tables + 1, tags)
part_of w c = part.Nothing

-- a subtable's tags may be put in their place: its number is new, and there is room
abbrev pub HasPlace : Part → ContentsHeld → Type 0
HasPlace (part.Subtable change) k = IsAbsent change.0 k.kept.subtables × (0 < k.room.subtables)
HasPlace part.Nothing k = ⊤

-- a new supertable or table has room for its greatest timestamp
abbrev pub HasLatestRoom : What → Room → Type 0
HasLatestRoom (what.MakeStable name schema) room = 0 < room.stables
HasLatestRoom (what.MakeTable name columns) room = 0 < room.tables
HasLatestRoom (what.MakeSub name stable tags) room = 0 < room.tables
HasLatestRoom w room = ⊤

-- a new subtable has room for its tags
abbrev pub HasTagRoom : What → Room → Type 0
HasTagRoom (what.MakeSub name stable tags) room = 0 < room.subtables
HasTagRoom w room = ⊤

abbrev pub HasRoomBeside : What → Room → Type 0
HasRoomBeside w room = HasLatestRoom w room × HasTagRoom w room

-- ---- states

-- the state, but for its rows, that a version, a moment, a catalog and what is kept beside it are
abbrev pub state_of : ℕ → ℕ → Catalog → Kept → State
state_of version moment c k =
    record {
      version = version;
      moment = moment;
      catalog = c;
      stable_latest = k.greatest.stables;
      table_latest = k.greatest.tables;
      rows = [];
      edge = k.edge;
      halt = k.halt;
    }

-- a subtable has no columns of its own
abbrev pub HasOwnColumns : Option ℕ → List Column → Type 0
HasOwnColumns None columns = ⊤
HasOwnColumns (Some stable) columns = columns ≡ []

abbrev pub HasColumns : TableDef → Type 0
HasColumns t = HasOwnColumns t.parent t.columns

-- what is kept beside a catalog has its subtables, its greatest timestamps are those of its supertables and tables, the
-- state is sound, and its numbers are in their ranges
pub record IsRight (version moment : ℕ) (c : Catalog) (k : Kept) : Type 0 where
  pub subtables : k.subtables ≡ subtables_of c
  pub sound : IsSound (state_of version moment c k)
  pub columns : AllByRecursion HasColumns c.tables
  pub latest : AreLatest c k.greatest
  pub edge : k.edge ≤ LAST_DAY_RANGE
  pub in_time : moment ≤ LAST_TIMESTAMP
  pub last : k.halt ≡ None → version ≤ LAST_VERSION
  pub next : 1 ≤ c.next_stream
