-- What is kept beside a catalog, what an entry makes of it, and the part of an entry that is made before it is applied.
use Rattle.std.specs.Prelude.{◌≡◌, ℕ, ◌+◌, ◌*◌, ◌<◌, not, nat_le, [], ◌∷◌, ◌++◌, filter, length, Option, Some, None, ⊤}
use Rattle.td_limits.specs.declared.limits.TheConstants.{DAY_RANGE}
use Rattle.td_model.specs.declared.history.What.{What}
use Rattle.td_model.specs.declared.history.What.TheVariants as what
use Rattle.td_model.specs.Catalog.{Catalog}
use Rattle.td_model.specs.State.{State, Rows, is_cut}
use Rattle.td_verdict.specs.Plans.{subtables_of}
use Rattle.td_verdict.specs.Sound.{IsSound}
use Rattle.td_tagidx.specs.Indexed.{Subtables, with_subtable, IsAbsent}
use Rattle.td_rows.specs.Puts.{rows_after}
use Rattle.td_tables.specs.declared.contents.Part.{Part}
use Rattle.td_tables.specs.declared.contents.Part.TheVariants as part
use Rattle.td_tables.specs.Latest.{Greatest, raised_all}

-- the subtables with their tags, the greatest timestamps that were ever put, the rows, the retention edge, and the
-- version of the halt
pub record Kept : Type 0 where
  pub subtables : Subtables
  pub greatest : Greatest
  pub rows : Rows
  pub edge : ℕ
  pub halt : Option ℕ

-- how many more subtables the index of tags takes without further memory, and how many more greatest timestamps of
-- supertables and of tables are taken
pub record Room : Type 0 where
  pub subtables : ℕ
  pub stables : ℕ
  pub tables : ℕ

-- what is kept, and its room
pub record ContentsHeld : Type 0 where
  pub kept : Kept
  pub room : Room

-- ---- entries

-- after an entry of a version and a moment, over the catalog before it
abbrev pub kept_after : What → ℕ → ℕ → Catalog → Kept → Kept
kept_after (what.MakeStable name schema) version moment c k =
    record k { greatest = record k.greatest { stables = k.greatest.stables ++ None ∷ [] } }
kept_after (what.MakeTable name columns) version moment c k =
    record k { greatest = record k.greatest { tables = k.greatest.tables ++ None ∷ [] } }
kept_after (what.MakeSub name stable tags) version moment c k =
    record k {
      greatest = record k.greatest { tables = k.greatest.tables ++ None ∷ [] };
      subtables = with_subtable (length c.tables + 1, tags) k.subtables;
    }
kept_after (what.Put puts) version moment c k =
    record k { rows = rows_after moment puts k.rows; greatest = raised_all c puts k.greatest }
kept_after (what.Cut table lo hi) version moment c k =
    record k { rows = filter (λ e. not (is_cut table lo hi e.0)) k.rows }
kept_after (what.Edge edge) version moment c k =
    record k { edge = edge; rows = filter (λ e. nat_le (edge * DAY_RANGE) e.0.ts) k.rows }
kept_after (what.MakeStream def) version moment c k = k
kept_after (what.DropStream n) version moment c k = k
kept_after (what.Step stream upto moment') version moment c k = k
kept_after what.Halt version moment c k = record k { halt = Some version }

-- ---- the two steps of an entry: its part is put in its place, and the rest, which takes no memory, is noted

abbrev pub placed : Part → Kept → Kept
placed part.Nothing k = k
placed (part.Subtable change) k = record k { subtables = with_subtable change k.subtables }
placed (part.Rows rows) k = record k { rows = rows }

abbrev pub noted : What → ℕ → Catalog → Kept → Kept
noted (what.MakeStable name schema) version c k =
    record k { greatest = record k.greatest { stables = k.greatest.stables ++ None ∷ [] } }
noted (what.MakeTable name columns) version c k =
    record k { greatest = record k.greatest { tables = k.greatest.tables ++ None ∷ [] } }
noted (what.MakeSub name stable tags) version c k =
    record k { greatest = record k.greatest { tables = k.greatest.tables ++ None ∷ [] } }
noted (what.Put puts) version c k = record k { greatest = raised_all c puts k.greatest }
noted (what.Edge edge) version c k = record k { edge = edge }
noted what.Halt version c k = record k { halt = Some version }
noted w version c k = k

-- the part of an entry of a moment over a catalog and its rows
abbrev pub part_of : What → ℕ → Catalog → Rows → Part
part_of (what.MakeSub name stable tags) moment c rows = part.Subtable (length c.tables + 1, tags)
part_of (what.Put puts) moment c rows = part.Rows (rows_after moment puts rows)
part_of (what.Cut table lo hi) moment c rows = part.Rows (filter (λ e. not (is_cut table lo hi e.0)) rows)
part_of (what.Edge edge) moment c rows = part.Rows (filter (λ e. nat_le (edge * DAY_RANGE) e.0.ts) rows)
part_of w moment c rows = part.Nothing

-- a subtable's tags may be put in their place: its number is new, and there is room
abbrev pub HasPlace : Part → ContentsHeld → Type 0
HasPlace (part.Subtable change) k = IsAbsent change.0 k.kept.subtables × (0 < k.room.subtables)
HasPlace part.Nothing k = ⊤
HasPlace (part.Rows rows) k = ⊤

-- a new supertable or table has room for its greatest timestamp
abbrev pub HasLatestRoom : What → Room → Type 0
HasLatestRoom (what.MakeStable name schema) room = 0 < room.stables
HasLatestRoom (what.MakeTable name columns) room = 0 < room.tables
HasLatestRoom (what.MakeSub name stable tags) room = 0 < room.tables
HasLatestRoom w room = ⊤

-- a new subtable has room for its tags
abbrev pub HasTagRoom : What → Room → Type 0
HasTagRoom (what.MakeSub name stable tags) room = 0 < room.subtables
HasTagRoom w room = ⊤

abbrev pub HasRoomBeside : What → Room → Type 0
HasRoomBeside w room = HasLatestRoom w room × HasTagRoom w room

-- ---- states

-- the state that a version, a moment, a catalog and what is kept beside it are
abbrev pub state_of : ℕ → ℕ → Catalog → Kept → State
state_of version moment c k =
    record {
      version = version;
      moment = moment;
      catalog = c;
      stable_latest = k.greatest.stables;
      table_latest = k.greatest.tables;
      rows = k.rows;
      edge = k.edge;
      halt = k.halt;
    }

-- what is kept beside a catalog has its subtables, and the state is sound
pub record IsRight (version moment : ℕ) (c : Catalog) (k : Kept) : Type 0 where
  pub subtables : k.subtables ≡ subtables_of c
  pub sound : IsSound (state_of version moment c k)
