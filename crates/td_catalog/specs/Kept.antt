-- A catalog beside the room that it has, which entries may come next, and what a change makes of it.
use Rattle.std.specs.Prelude.{◌≡◌, ◌<◌, ◌≤◌, ◌+◌, ℕ, All, List, [], length, Option, Some, None, ⊤}
use Rattle.td_limits.specs.declared.limits.TheConstants.{LAST_STREAM_NUMBER, STREAMS, TABLES}
use Rattle.td_model.specs.declared.history.What.{What}
use Rattle.td_model.specs.declared.history.What.TheVariants as what
use Rattle.td_model.specs.Catalog.{Catalog, stable_named, table_named, stream_named, target_named, stable_at, schema_or_none, with_what}
use Rattle.td_verdict.specs.Sound.{IsCut, IsPut}
use Rattle.td_verdict.specs.Valid.{AreTags, IsSchema}

-- a catalog, and how many more supertables, tables and streams it takes without further memory
pub record Kept : Type 0 where
  pub catalog : Catalog
  pub stable_room : ℕ
  pub table_room : ℕ
  pub stream_room : ℕ

-- tables, supertables and targets share one space of names; none of them has this name
pub record IsFree (name : List ℕ) (c : Catalog) : Type 0 where
  pub stable : stable_named name c ≡ None
  pub table : table_named name c ≡ None
  pub target : target_named name c ≡ None

-- there is one of this number, of so many that are numbered from 1
abbrev pub IsNumbered : ℕ → ℕ → Type 0
IsNumbered n count = (1 ≤ n) × (n ≤ count)

-- What an entry is that may come after a catalog: a new name is free, a schema is well formed, a supertable that is
-- named is there and has a tag for each cell, puts and cuts are of tables that are there, and there is place for what
-- is added.
abbrev pub CanFollow : What → Catalog → Type 0
CanFollow (what.MakeStable name schema) c =
    IsFree name c × IsSchema schema.columns schema.tags × (length c.tables + length c.stables < TABLES)
CanFollow (what.MakeTable name columns) c =
    IsFree name c × IsSchema columns [] × (length c.tables + length c.stables < TABLES)
CanFollow (what.MakeSub name stable tags) c =
    IsFree name c × IsNumbered stable (length c.stables) × AreTags (schema_or_none (stable_at stable c)).tags tags
    × (length c.tables + length c.stables < TABLES)
CanFollow (what.MakeStream def) c =
    (stream_named def.name c ≡ None) × IsFree def.target c × (length c.streams < STREAMS)
    × (c.next_stream ≤ LAST_STREAM_NUMBER)
CanFollow (what.Put puts) c = All (IsPut c) puts
CanFollow (what.Cut table lo hi) c = IsCut c table lo hi
CanFollow (what.DropStream n) c = ⊤
CanFollow (what.Edge edge) c = ⊤
CanFollow (what.Step stream upto moment) c = ⊤
CanFollow what.Halt c = ⊤

-- the part of an entry that a catalog keeps: none of an entry that leaves each catalog as it is
abbrev pub change_of : What → Option What
change_of (what.MakeStable name schema) = Some (what.MakeStable name schema)
change_of (what.MakeTable name columns) = Some (what.MakeTable name columns)
change_of (what.MakeSub name stable tags) = Some (what.MakeSub name stable tags)
change_of (what.MakeStream def) = Some (what.MakeStream def)
change_of (what.DropStream n) = Some (what.DropStream n)
change_of (what.Put puts) = None
change_of (what.Cut table lo hi) = None
change_of (what.Edge edge) = None
change_of (what.Step stream upto moment) = None
change_of what.Halt = None

-- the catalog after a change
abbrev pub changed : Option What → Catalog → Catalog
changed None c = c
changed (Some w) c = with_what w c

-- a change needs room for what it adds
abbrev pub HasRoom : What → Kept → Type 0
HasRoom (what.MakeStable name schema) k = 0 < k.stable_room
HasRoom (what.MakeTable name columns) k = 0 < k.table_room
HasRoom (what.MakeSub name stable tags) k = 0 < k.table_room
HasRoom (what.MakeStream def) k = 0 < k.stream_room
HasRoom (what.Put puts) k = ⊤
HasRoom (what.Cut table lo hi) k = ⊤
HasRoom (what.DropStream n) k = ⊤
HasRoom (what.Edge edge) k = ⊤
HasRoom (what.Step stream upto moment) k = ⊤
HasRoom what.Halt k = ⊤

-- a change may be applied, and takes no memory: its entry may come after the catalog, which has room for it
abbrev pub IsReadyFor : Option What → Kept → Type 0
IsReadyFor None k = ⊤
IsReadyFor (Some w) k = CanFollow w k.catalog × HasRoom w k
