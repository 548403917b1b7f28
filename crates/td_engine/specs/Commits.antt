-- What freezes answer, what they make of a core, and what becomes of files in making.
use Rattle.std.specs.Prelude.{◌≡◌, ◌≢◌, ◌⊎◌, ◌≤◌, ◌<◌, ℕ, length, IsSome, Option, Some, None, Result, OnOk, IsErrOf}
use Rattle.td_model.specs.State.{State}
use Rattle.td_outside.specs.Image.{Image}
use Rattle.td_outside.specs.Causes.{Rose, raised}
use Rattle.td_outside.specs.declared.faults.IoFault.{IoFault}
use Rattle.td_outside.specs.declared.faults.IoFault.TheVariants.{Failed}
use Rattle.td_commit.specs.declared.frozen.Frozen.{Frozen}
use Rattle.td_commit.specs.Sound.{IsSound}
use Rattle.td_commit.specs.Given.{HasBirths}
use Rattle.td_levels.specs.Laws.{HasKindsOf, frozen_of}
use Rattle.td_levels.specs.Ranges.{AreRangesOf}
use Rattle.td_stands.specs.Stands.{Stands}
use Rattle.td_engine.specs.declared.kept.Flight.{Flight}
use Rattle.td_engine.specs.declared.freezing.Freeze.{Freeze}
use Rattle.td_engine.specs.declared.freezing.Freeze.TheVariants as freeze
use Rattle.td_engine.specs.CoreState.{CoreState, FrozenAt}

-- ---- what is out

-- what tells a frozen memtable from others
abbrev pub flight_of : Frozen → Flight
flight_of f = record { number = f.number; from = f.from; version = f.version }

-- whether a frozen memtable that goes in is the one that is out
abbrev pub IsHome : CoreState → Frozen → Type 0
IsHome c f = c.flight ≡ Some (flight_of f)

-- A frozen memtable that is out is the core's, and can be written: its kinds are those of the tables that there were as
-- it was frozen, and its day ranges are those that get a file at the edge that stood then.
pub record IsOut (c : CoreState) (f : Frozen) : Type 0 where
  pub frozen : c.levels.frozen ≡ Some f.memtable
  pub at : FrozenAt
  pub at_is : c.frozen_at ≡ Some at
  pub version : f.version ≡ at.version
  pub from : f.from ≡ c.committed
  pub sound : IsSound f
  pub births : HasBirths f
  pub kinds : HasKindsOf c.state.catalog f
  pub few : length f.kinds ≤ at.tables
  pub risen : at.edge ≤ c.state.edge
  pub ranges : AreRangesOf f.memtable c.levels.sets at.edge f.ranges

-- ---- freezes

-- a memtable that is frozen now goes up to the state
abbrev pub at_now : State → FrozenAt
at_now s = record { version = s.version; edge = s.edge; tables = length s.catalog.tables }

-- what was frozen now, or was left by an earlier job or by the opening
abbrev pub FrozenNow : CoreState → CoreState → Frozen → Type 0
FrozenNow old new f =
    (old.levels.frozen ≡ None) × (old.state.version ≢ old.committed) × (f.version ≡ old.state.version)
    × (new.levels ≡ frozen_of old.levels)
    × (new.frozen_at ≡ Some (at_now old.state))

abbrev pub FrozenBefore : CoreState → CoreState → Frozen → Type 0
FrozenBefore old new f =
    (at : FrozenAt) × (old.frozen_at ≡ Some at) × (f.version ≡ at.version) × (new.levels ≡ old.levels)
    × (new.frozen_at ≡ old.frozen_at)

-- the store and the history are as they were
pub record KeepsStore (old new : CoreState) : Type 0 where
  pub state : new.state ≡ old.state
  pub committed : new.committed ≡ old.committed
  pub pins : new.pins ≡ old.pins
  pub base : new.base ≡ old.base
  pub journal : new.journal ≡ old.journal
  pub floor : new.floor ≡ old.floor
  pub told : new.told ≡ old.told
  pub count : new.count ≡ old.count
  pub readings : new.readings ≡ old.readings

-- A memtable is given that isn't out, frozen now or before, and the store and what is out are as they were.
pub record TakesFrozen (old new : CoreState) (f : Frozen) : Type 0 where
  pub which : FrozenNow old new f ⊎ FrozenBefore old new f
  pub flight : new.flight ≡ old.flight
  pub later : old.committed < f.version
  pub most : f.version ≤ old.state.version
  pub out : IsOut new f
  pub keeps : KeepsStore old new

-- nothing is frozen, and there is no entry above the head's version
abbrev pub HasNothing : CoreState → CoreState → Type 0
HasNothing old new = (old.levels.frozen ≡ None) × (old.state.version ≡ old.committed) × (new ≡ old)

-- what is given of a memtable that was frozen before
abbrev pub GivesFrozen : CoreState → Option Frozen → Type 0
GivesFrozen c None = c.levels.frozen ≡ None
GivesFrozen c (Some f) = FrozenBefore c c f × IsOut c f × (c.committed < f.version) × (f.version ≤ c.state.version)

-- A memtable is handed out, which isn't out already: the active one, which had an entry, or one that was frozen before.
pub record HandsOut (old new : CoreState) (f : Frozen) : Type 0 where
  pub going : old.state.halt ≡ None
  pub home : old.flight ≡ None
  pub which : FrozenNow old new f ⊎ FrozenBefore old new f
  pub flight : new.flight ≡ Some (flight_of f)
  pub later : old.committed < f.version
  pub most : f.version ≤ old.state.version
  pub out : IsOut new f
  pub keeps : KeepsStore old new

-- What a freeze answers: Stopped exactly where the history has a halt, Busy exactly where the frozen memtable is out,
-- Nothing exactly where nothing is frozen and the front is the head's version. But for a memtable that is handed out
-- the core stays as it was.
abbrev pub Freezes : CoreState → CoreState → Freeze → Type 0
Freezes old new (freeze.Frozen f) = HandsOut old new f
Freezes old new freeze.Nothing =
    (old.state.halt ≡ None) × (old.flight ≡ None) × (old.levels.frozen ≡ None)
    × (old.state.version ≡ old.committed) × (new ≡ old)
Freezes old new (freeze.Busy version) =
    (old.state.halt ≡ None) × ((f : Flight) × (old.flight ≡ Some f) × (version ≡ f.version)) × (new ≡ old)
Freezes old new (freeze.Stopped version) = (old.state.halt ≡ Some version) × (new ≡ old)
Freezes old new freeze.NoMemory = (old.state.halt ≡ None) × (old.flight ≡ None) × (new ≡ old)

-- ---- thaws

-- A frozen memtable that is out is taken back, and another changes nothing.
pub record Thaws (old new : CoreState) (f : Frozen) : Type 0 where
  pub home : IsHome old f → new ≡ record old { flight = None }
  pub other : (IsHome old f → ⊥) → new ≡ old

-- ---- files in making

-- The image stands for what it stood for, each file that was there holds what it held, and the same readers are open.
pub record KeepsFiles (before now : Image) : Type 0 where
  pub stands : (s : State) → Stands before s → Stands now s
  pub kept : (n : ℕ) → IsSome (before.files n) → now.files n ≡ before.files n
  pub readers : now.readers ≡ before.readers

-- all but the store is as it was
pub record KeepsButStore (old new : CoreState) : Type 0 where
  pub state : new.state ≡ old.state
  pub levels : new.levels ≡ old.levels
  pub committed : new.committed ≡ old.committed
  pub frozen_at : new.frozen_at ≡ old.frozen_at
  pub flight : new.flight ≡ old.flight
  pub pins : new.pins ≡ old.pins
  pub base : new.base ≡ old.base
  pub journal : new.journal ≡ old.journal
  pub floor : new.floor ≡ old.floor
  pub log : new.log ≡ old.log
  pub readings : new.readings ≡ old.readings

-- A count never falls, up to its type's end. A failure comes only where it rose, and where no error came it stays.
-- Where there was no memory, files that were given up may have raised it.
pub record HasCreated {T : Type 0} (before now : ℕ) (result : Result T IoFault) : Type 0 where
  pub later : raised before 0 ≤ now
  pub failed : IsErrOf result Failed → Rose before now
  pub kept : OnOk result (now ≡ before)
