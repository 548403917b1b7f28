-- What commits answer, and what they make of a core.
use Rattle.std.specs.Prelude.{◌≡◌, ◌<◌, ◌≤◌, ◌⊎◌, ℕ, ◌+◌, Bool, false, nat_lt, List, [], ◌∷◌, ◌++◌, Option, Some, None}
use Rattle.td_memtable.specs.Contents.{nothing_held}
use Rattle.td_model.specs.declared.history.Entry.{Entry}
use Rattle.td_model.specs.State.{State, step}
use Rattle.td_outside.specs.Image.{Image, Along}
use Rattle.td_outside.specs.Causes.{Rose, raised}
use Rattle.td_told.specs.Journal.{halt_at}
use Rattle.td_told.specs.Turn.{halt_line}
use Rattle.td_manifest.specs.declared.head.Head.{Head}
use Rattle.td_stands.specs.Heads.{HeadIs}
use Rattle.td_state.specs.Held.{bare}
use Rattle.td_engine.specs.CoreState.{CoreState, FrozenAt}
use Rattle.td_commit.specs.declared.frozen.Frozen.{Frozen}
use Rattle.td_engine.specs.Covers.{FactsAre, RowsAre, HeldIs, PinsAre, JournalIs, ImageIs, FloorIs, ClockIs}
use Rattle.td_engine.specs.Commits.{IsHome, IsOut, KeepsFiles}
use Rattle.td_committing.specs.declared.commits.CommitEnd.{CommitEnd}
use Rattle.td_committing.specs.declared.commits.CommitEnd.TheVariants as ends

-- The history, the pins and the clock are as they were, and no frozen memtable is out. What was committed before stays
-- so.
pub record KeepsHistory (old new : CoreState) : Type 0 where
  pub state : new.state ≡ old.state
  pub base : new.base ≡ old.base
  pub journal : new.journal ≡ old.journal
  pub floor : new.floor ≡ old.floor
  pub pins : new.pins ≡ old.pins
  pub readings : new.readings ≡ old.readings
  pub flight : new.flight ≡ None
  pub committed : old.committed ≤ new.committed

-- The head has this version, and the log before its first one is gone. The image stands for what it stood for, and each
-- file that was there holds what it held.
pub record IsCommitted (version : ℕ) (before now : Image) : Type 0 where
  pub keeps : KeepsFiles before now
  pub head : Head
  pub head_is : HeadIs now.head head
  pub version_is : head.version ≡ version
  pub dropped : (n : ℕ) → n + 1 ≡ head.first_log → now.logs n ≡ None

-- where the frozen memtable has all entries, the active one is empty
abbrev pub IsActiveEmpty : CoreState → Type 0
IsActiveEmpty c =
    (at : FrozenAt) → c.frozen_at ≡ Some at → at.version ≡ c.state.version → c.levels.active ≡ nothing_held

-- What was entered up to a version stands in files: up to the front, unless an earlier commit had left a memtable
-- frozen, which then went into files alone.
pub record Commits (old new : CoreState) (version : ℕ) : Type 0 where
  pub going : old.state.halt ≡ None
  pub later : old.committed < version
  pub most : version ≤ old.state.version
  pub whole : old.levels.frozen ≡ None → version ≡ old.state.version
  pub committed_is : new.committed ≡ version
  pub unfrozen : new.levels.frozen ≡ None
  pub emptied : old.levels.frozen ≡ None → new.levels.active ≡ nothing_held
  pub empty : IsActiveEmpty old → version ≡ old.state.version → new.levels.active ≡ nothing_held
  pub keeps : KeepsHistory old new
  pub image : Along (IsCommitted version) old.told new.told

-- nothing is frozen, and there is no entry above the head's version
abbrev pub HasNothing : CoreState → CoreState → Type 0
HasNothing old new =
    (old.state.halt ≡ None) × (old.levels.frozen ≡ None) × (old.state.version ≡ old.committed) × (new ≡ old)

-- A fault, or want of memory, left the entries in the log. The image stands for what it stood for.
pub record Stays (old new : CoreState) : Type 0 where
  pub going : old.state.halt ≡ None
  pub keeps : KeepsHistory old new
  pub image : Along KeepsFiles old.told new.told

-- The head couldn't be swapped, or the older log couldn't be dropped: a halt is added, and the store failed.
pub record Halts (old new : CoreState) (version : ℕ) : Type 0 where
  pub going : old.state.halt ≡ None
  pub version_is : version ≡ old.state.version + 1
  pub state : new.state ≡ bare (step (old.state ∷ []) (halt_at old.floor))
  pub journal : new.journal ≡ old.journal ++ halt_line version old.floor ∷ []
  pub base : new.base ≡ old.base
  pub floor : new.floor ≡ old.floor
  pub pins : new.pins ≡ old.pins
  pub readings : new.readings ≡ old.readings
  pub flight : new.flight ≡ None
  pub committed : old.committed ≤ new.committed
  pub image : Along KeepsFiles old.told new.told
  pub cause : Rose old.count new.count

-- what one commit answers
abbrev pub CommitEnds : CoreState → CoreState → CommitEnd → Type 0
CommitEnds old new (ends.Committed version) = Commits old new version
CommitEnds old new ends.Nothing = HasNothing old new
CommitEnds old new (ends.Stopped version) = (old.state.halt ≡ Some version) × (new ≡ old)
CommitEnds old new ends.StoreFault = Stays old new × Rose old.count new.count
CommitEnds old new (ends.Halted version) = Halts old new version
CommitEnds old new ends.NoMemory = Stays old new

-- All that was entered stands in files: the head has the version of the front, and the active memtable is empty.
pub record CommitsAll (old new : CoreState) (version : ℕ) : Type 0 where
  pub going : old.state.halt ≡ None
  pub later : old.committed < version
  pub version_is : version ≡ old.state.version
  pub committed_is : new.committed ≡ version
  pub unfrozen : new.levels.frozen ≡ None
  pub emptied : (old.levels.frozen ≡ None) ⊎ IsActiveEmpty old → new.levels.active ≡ nothing_held
  pub keeps : KeepsHistory old new
  pub image : Along (IsCommitted version) old.told new.told

-- the same of a commit of all
abbrev pub AllEnds : CoreState → CoreState → CommitEnd → Type 0
AllEnds old new (ends.Committed version) = CommitsAll old new version
AllEnds old new ends.Nothing = HasNothing old new
AllEnds old new (ends.Stopped version) = (old.state.halt ≡ Some version) × (new ≡ old)
AllEnds old new ends.StoreFault = Stays old new × Rose old.count new.count
AllEnds old new (ends.Halted version) = Halts old new version
AllEnds old new ends.NoMemory = Stays old new

-- ---- the history

-- what a commit adds to the history: a halt, where it halted
abbrev pub added : CommitEnd → ℕ → List Entry
added (ends.Halted version) floor = halt_at floor ∷ []
added (ends.Committed version) floor = []
added ends.Nothing floor = []
added (ends.Stopped version) floor = []
added ends.StoreFault floor = []
added ends.NoMemory floor = []

-- What a core says of a history, another says of it with some entries more, point by point.
pub record CarriesOver (old new : CoreState) (more : List Entry) : Type 0 where
  pub facts : (b : State) (h : List Entry) → FactsAre old b h → FactsAre new b (h ++ more)
  pub rows : (b : State) (h : List Entry) → FactsAre old b h → RowsAre old b h → RowsAre new b (h ++ more)
  pub journal : (b : State) (h : List Entry) → FactsAre old b h → JournalIs old b h → JournalIs new b (h ++ more)
  pub image : (b : State) (h : List Entry) → FactsAre old b h → ImageIs old b h → ImageIs new b (h ++ more)
  pub floor : (b : State) (h : List Entry) → FloorIs old b h → FloorIs new b (h ++ more)
  pub held : HeldIs old → HeldIs new
  pub pins : PinsAre old → PinsAre new
  pub clock : (opened : Option (List ℕ)) (b : State) (h : List Entry) → ClockIs opened old b h
      → ClockIs opened new b (h ++ more)

-- ---- the steps of a commit

-- A frozen memtable is out, of entries above the head's version, and nothing halted.
pub record IsReady (c : CoreState) (f : Frozen) : Type 0 where
  pub going : c.state.halt ≡ None
  pub home : IsHome c f
  pub out : IsOut c f
  pub later : c.committed < f.version
  pub most : f.version ≤ c.state.version

-- The frozen memtable is taken back, and its files, whose writers had so many faults, are given up.
pub record GivesUp (old new : CoreState) (faults : ℕ) : Type 0 where
  pub stays : Stays old new
  pub levels : new.levels ≡ old.levels
  pub points : CarriesOver old new []
  pub count : raised old.count faults ≤ new.count

-- what is committed goes up to a version
abbrev pub IsUpTo : ℕ → CommitEnd → Type 0
IsUpTo front (ends.Committed version) = version ≡ front
IsUpTo front ends.Nothing = Unit {0}
IsUpTo front (ends.Stopped version) = Unit {0}
IsUpTo front ends.StoreFault = Unit {0}
IsUpTo front (ends.Halted version) = Unit {0}
IsUpTo front ends.NoMemory = Unit {0}

-- A commit whose frozen memtable is out comes to its end. The active memtable is as it was.
pub record ComesTo (old new : CoreState) (f : Frozen) (end : CommitEnd) : Type 0 where
  pub ends : CommitEnds old new end
  pub up_to : IsUpTo f.version end
  pub active : new.levels.active ≡ old.levels.active
  pub points : CarriesOver old new (added end old.floor)
  pub later : raised old.count 0 ≤ new.count

-- whether a commit may have left entries up to a version in the log
abbrev pub leaves_more : CommitEnd → ℕ → Bool
leaves_more (ends.Committed version) front = nat_lt version front
leaves_more ends.Nothing front = false
leaves_more (ends.Stopped version) front = false
leaves_more ends.StoreFault front = false
leaves_more (ends.Halted version) front = false
leaves_more ends.NoMemory front = false
