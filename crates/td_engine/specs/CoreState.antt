-- What contracts see of a core.
use Rattle.std.specs.Prelude.{◌≡◌, ℕ, ◌≤◌, List, length, Option, Some, None}
use Rattle.td_limits.specs.declared.limits.TheConstants.{LAST_TIMESTAMP}
use Rattle.td_model.specs.declared.report.JournalLine.{JournalLine}
use Rattle.td_model.specs.State.{State}
use Rattle.td_outside.specs.Image.{Image}
use Rattle.td_manifest.specs.declared.head.Head.{Head}
use Rattle.td_fileset.specs.Pinned.{PinTable, pins_of}
use Rattle.td_levels.specs.Levels.{Levels}
use Rattle.td_active.specs.declared.active_log.ActiveLog.{ActiveLog}
use Rattle.td_active.specs.Stored.{IsStored}
use Rattle.td_engine.specs.declared.kept.Flight.{Flight}

-- of a frozen memtable, the version of its last entry, and the edge and the count of tables then
pub record FrozenAt : Type 0 where
  pub version : ℕ
  pub edge : ℕ
  pub tables : ℕ

-- What contracts see of a core.
pub record CoreState : Type 0 where
  -- the state but for its rows, which the levels hold
  pub state : State
  pub levels : Levels
  -- the version of the head, and up to where the frozen memtable goes, where there is one
  pub committed : ℕ
  pub frozen_at : Option FrozenAt
  -- the frozen memtable that is out, to be written to files
  pub flight : Option Flight
  -- how many readers of each file are pinned
  pub pins : ℕ → ℕ
  -- the version of the state that was opened
  pub base : ℕ
  -- the lines of the entries since then
  pub journal : List JournalLine
  -- the greatest moment that was given
  pub floor : ℕ
  pub log : ActiveLog
  -- what the store tells, and how often it failed
  pub told : Option Image
  pub count : ℕ
  -- the readings that the clock has left
  pub readings : Option (List ℕ)

-- What a core keeps: its store and its clock as they are, and the rest as contracts see it.
pub record Kept (S C : Type 0) : Type 0 where
  pub store : S
  pub clock : C
  pub state : State
  pub levels : Levels
  pub committed : ℕ
  pub frozen_at : Option FrozenAt
  pub flight : Option Flight
  pub pins : PinTable
  pub journal : List JournalLine
  pub base : ℕ
  pub floor : ℕ
  pub log : ActiveLog

-- a core, by what its store tells and counts, and by the readings that its clock has left
abbrev pub seen : {S C : Type 0} → (S → Option Image) → (S → ℕ) → (C → Option (List ℕ)) → Kept S C → CoreState
seen told count readings k =
    record {
      state = k.state;
      levels = k.levels;
      committed = k.committed;
      frozen_at = k.frozen_at;
      flight = k.flight;
      pins = pins_of k.pins;
      base = k.base;
      journal = k.journal;
      floor = k.floor;
      log = k.log;
      told = told k.store;
      count = count k.store;
      readings = readings k.clock;
    }

-- the frozen memtable goes up to the state of the head that stands beside it
abbrev pub frozen_at : Option Head → Option FrozenAt
frozen_at None = None
frozen_at (Some h) = Some (record { version = h.version; edge = h.edge; tables = length h.tables })

-- What is true of every core: no moment was given before that of the state, nor beyond the last; its state, its levels,
-- the log that is written and its store are as told in `IsStored`; and as long as nothing halted there is room for the
-- line of a halt.
pub record IsKept
    (told : Option Image) (s : State) (l : Levels) (committed : ℕ) (sealed : Option Head) (place : ActiveLog)
    (floor spare : ℕ)
    : Type 0 where
  pub since : s.moment ≤ floor
  pub last : floor ≤ LAST_TIMESTAMP
  pub stored : IsStored told s l committed sealed place
  pub room : s.halt ≡ None → 1 ≤ spare
