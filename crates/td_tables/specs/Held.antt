-- A state that is held in memory: which entries it can take, and which it can take without further memory.
use Rattle.std.specs.Prelude.{◌≡◌, ℕ, ◌<◌, Option}
use Rattle.td_limits.specs.declared.limits.TheConstants.{LAST_VERSION}
use Rattle.td_model.specs.declared.history.What.{What}
use Rattle.td_model.specs.declared.history.Entry.{Entry}
use Rattle.td_model.specs.State.{State}
use Rattle.td_catalog.specs.Kept.{CanFollow, IsReadyFor}
use Rattle.td_catalog.specs.Kept as catalog
use Rattle.td_verdict.specs.Sound.{IsFromEdge}
use Rattle.td_tables.specs.declared.contents.Part.{Part}
use Rattle.td_tables.specs.Contents.{ContentsHeld, Room, state_of, part_of, HasRoomBeside}

-- The state; how many more supertables, tables and streams its catalog takes without further memory; and the room of
-- what is kept beside the catalog.
pub record Held : Type 0 where
  pub state : State
  pub stable_room : ℕ
  pub table_room : ℕ
  pub stream_room : ℕ
  pub beside : Room

abbrev pub held_of : ℕ → ℕ → catalog.Kept → ContentsHeld → Held
held_of version moment c k =
    record {
      state = state_of version moment c.catalog k.kept;
      stable_room = c.stable_room;
      table_room = c.table_room;
      stream_room = c.stream_room;
      beside = k.room;
    }

-- the catalog of the state, with its room
abbrev pub catalog_held : Held → catalog.Kept
catalog_held h =
    record {
      catalog = h.state.catalog;
      stable_room = h.stable_room;
      table_room = h.table_room;
      stream_room = h.stream_room;
    }

-- An entry may come next in a state: it may follow the catalog, no row of it lies before the retention edge, which
-- doesn't fall, and there is a version for it.
pub record CanTake (w : What) (s : State) : Type 0 where
  pub follows : CanFollow w s.catalog
  pub edge : IsFromEdge s.edge w
  pub version : s.version < LAST_VERSION

-- an entry, with what it changes in the catalog and its part beside it, in their memory
pub record PreparedEntry : Type 0 where
  pub entry : Entry
  pub change : Option What
  pub part : Part

-- A prepared entry may be applied to what is held, and takes no memory: it may come next in the state, it was prepared
-- over the catalog and the rows of the state, and there is room for it.
pub record IsReady (p : PreparedEntry) (h : Held) : Type 0 where
  pub takes : CanTake p.entry.what h.state
  pub change : p.change ≡ catalog.change_of p.entry.what
  pub ready : IsReadyFor p.change (catalog_held h)
  pub part : p.part ≡ part_of p.entry.what p.entry.moment h.state.catalog h.state.rows
  pub room : HasRoomBeside p.entry.what h.beside
