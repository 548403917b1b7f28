-- A state that is held in memory: which entries it can take, and which it can take without further memory.
use Rattle.std.specs.Prelude.{◌≡◌, ℕ, ◌<◌, ◌≤◌, [], Option, None, ⊤}
use Rattle.td_limits.specs.declared.limits.TheConstants.{LAST_DAY_RANGE, LAST_TIMESTAMP, LAST_VERSION}
use Rattle.td_model.specs.declared.history.What.{What}
use Rattle.td_model.specs.declared.history.What.TheVariants as what
use Rattle.td_model.specs.declared.history.Entry.{Entry}
use Rattle.td_model.specs.State.{State}
use Rattle.td_catalog.specs.Kept.{CanFollow, IsReadyFor}
use Rattle.td_catalog.specs.Kept as catalog
use Rattle.td_verdict.specs.Sound.{IsFromEdge}
use Rattle.td_state.specs.declared.contents.Part.{Part}
use Rattle.td_state.specs.Contents.{ContentsHeld, Room, state_of, part_of, HasRoomBeside}

-- a state but for its rows
abbrev pub bare : State → State
bare s = record s { rows = [] }

-- what a head says of a state: neither its rows, nor its live streams, nor a halt
abbrev pub headed : State → State
headed s = record s { catalog = record s.catalog { streams = [] }; rows = []; halt = None }

-- The state; how many more supertables, tables and streams its catalog takes without further memory; and the room of
-- what is kept beside the catalog.
pub record Held : Type 0 where
  pub state : State
  pub stable_room : ℕ
  pub table_room : ℕ
  pub stream_room : ℕ
  pub beside : Room

abbrev pub held_of : ℕ → ℕ → catalog.Kept → ContentsHeld → Held
held_of version moment c k =
    record {
      state = state_of version moment c.catalog k.kept;
      stable_room = c.stable_room;
      table_room = c.table_room;
      stream_room = c.stream_room;
      beside = k.room;
    }

-- the catalog of the state, with its room
abbrev pub catalog_held : Held → catalog.Kept
catalog_held h =
    record {
      catalog = h.state.catalog;
      stable_room = h.stable_room;
      table_room = h.table_room;
      stream_room = h.stream_room;
    }

-- a retention edge lies in the range of time
abbrev pub EndsInTime : What → Type 0
EndsInTime (what.Edge edge) = edge ≤ LAST_DAY_RANGE
EndsInTime w = ⊤

-- An entry may come next in a state: it may follow the catalog, no row of it lies before the retention edge, which
-- doesn't fall and lies in the range of time, and there is a version for it.
pub record CanTake (w : What) (s : State) : Type 0 where
  pub follows : CanFollow w s.catalog
  pub edge : IsFromEdge s.edge w
  pub ends : EndsInTime w
  pub version : s.version < LAST_VERSION

-- an entry, with what it changes in the catalog and its part beside it, in their memory
pub record PreparedEntry : Type 0 where
  pub entry : Entry
  pub change : Option What
  pub part : Part

-- A prepared entry may be applied to what is held, and takes no memory: it may come next in the state, it was prepared
-- over the catalog of the state, its moment is in the range of time, and there is room for it.
pub record IsReady (p : PreparedEntry) (h : Held) : Type 0 where
  pub takes : CanTake p.entry.what h.state
  pub change : p.change ≡ catalog.change_of p.entry.what
  pub ready : IsReadyFor p.change (catalog_held h)
  pub part : p.part ≡ part_of p.entry.what h.state.catalog
  pub moment : p.entry.moment ≤ LAST_TIMESTAMP
  pub room : HasRoomBeside p.entry.what h.beside
