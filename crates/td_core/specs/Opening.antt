-- What opening reads of a store, what its logs make, and what it leaves of the store.
use Rattle.std.specs.Prelude.{◌≡◌, ◌≢◌, ◌⊎◌, ℕ, ◌+◌, ◌<◌, ◌≤◌, Bool, true, false, List, [], ◌∷◌, Option, Some, None, is_some, Result, MatchResult, nat_lt, ◌==◌, ◌&&◌, if◌then◌else◌}
use Rattle.std.specs.Option.{option_map}
use Rattle.td_model.specs.declared.history.What.{What}
use Rattle.td_model.specs.declared.history.Entry.{Entry}
use Rattle.td_model.specs.declared.history.Verdict.TheVariants.{Accept}
use Rattle.td_model.specs.declared.language.Stmt.{Stmt}
use Rattle.td_model.specs.State.{State, step, empty_state}
use Rattle.td_outside.specs.Image.{Log, Image}
use Rattle.td_outside.specs.Logs.{with_log, after_sync, after_log_drop}
use Rattle.td_outside.specs.Causes.{Rose}
use Rattle.td_outside.specs.declared.faults.IoFault.{IoFault}
use Rattle.td_outside.specs.declared.faults.IoFault.TheVariants as io
use Rattle.td_parse.specs.Statements.{IsAnswer}
use Rattle.td_told.specs.Turn.{entry_at}
use Rattle.td_told.specs.Verdict.{verdict}
use Rattle.td_wal.specs.declared.item.LogItem.{LogItem}
use Rattle.td_wal.specs.Log.{LogAt}
use Rattle.td_core.specs.declared.causes.FileId.TheVariants as files
use Rattle.td_core.specs.declared.causes.OpenCause.{OpenCause}
use Rattle.td_core.specs.declared.causes.OpenCause.TheVariants as causes
use Rattle.td_core.specs.declared.kept.ActiveLog.{ActiveLog}
use Rattle.td_core.specs.declared.opening.LogBytes.{LogBytes}
use Rattle.td_core.specs.Replay.{Replays}
use Rattle.td_core.specs.Stands.{FIRST_LOG, Stands}
use Rattle.td_core.specs.CoreState.{LogPlace}
use Rattle.td_core.specs.Breaks.{CannotFollow, Refuses, BreaksOff, BreaksFirst}

-- ---- causes

-- the cause of a call on the store
abbrev pub open_cause : IoFault → OpenCause
open_cause io.Failed = causes.StoreFault
open_cause io.NoMemory = causes.NoMemory

-- what became of the count of faults: it rose where the store failed, and stayed otherwise
abbrev pub CountIsBy : OpenCause → ℕ → ℕ → Type 0
CountIsBy causes.StoreFault before now = (before ≤ now) × Rose before now
CountIsBy (causes.NotThisStore file at) before now = now ≡ before
CountIsBy causes.NoMemory before now = now ≡ before

abbrev pub CountIs : {T : Type 0} → Result T OpenCause → ℕ → ℕ → Type 0
CountIs result before now = MatchResult result (λ _. now ≡ before) (λ cause. CountIsBy cause before now)

-- a store that isn't one of ours breaks first at the place that is named
abbrev pub BreaksBy : OpenCause → Image → Type 0
BreaksBy (causes.NotThisStore file at) image = BreaksFirst image file at
BreaksBy causes.StoreFault image = Unit {0}
BreaksBy causes.NoMemory image = Unit {0}

-- ---- what is read

-- the bytes of a log, where it is there
abbrev pub bytes_at : ℕ → Image → Option (List ℕ)
bytes_at n image = option_map (λ log. log.bytes) (image.logs n)

-- an image without a head has these bytes of its first two logs
pub record HoldsLogs (logs : LogBytes) (image : Image) : Type 0 where
  pub head : image.head ≡ None
  pub first : logs.first ≡ bytes_at FIRST_LOG image
  pub second : logs.second ≡ bytes_at (FIRST_LOG + 1) image

-- the bytes of a log have an open gate at its first byte
abbrev pub HasOpenGateFirst : Option (List ℕ) → Type 0
HasOpenGateFirst None = ⊥
HasOpenGateFirst (Some bytes) = (rest : List ℕ) × (bytes ≡ 1 ∷ rest)

-- ---- one item

-- an entry is what a statement of an item is accepted as in a state
pub record IsAccepted (stmt : Stmt) (i : LogItem) (s : State) (e : Entry) : Type 0 where
  pub what : What
  pub rows : ℕ
  pub accepted : verdict stmt s [] i.moment ≡ Accept what rows
  pub entry : e ≡ entry_at i.session i.ordinal i.moment what

-- a statement isn't accepted in a state at a moment
abbrev pub IsNotAccepted : Stmt → ℕ → State → Type 0
IsNotAccepted stmt moment s = (what : What) (rows : ℕ) → verdict stmt s [] moment ≡ Accept what rows → ⊥

-- an entry is that of an item's text, which is a statement that is accepted in a state
pub record IsItemEntry (text : List ℕ) (i : LogItem) (s : State) (e : Entry) : Type 0 where
  pub stmt : Stmt
  pub parsed : IsAnswer text stmt
  pub accepted : IsAccepted stmt i s e

-- the text is no statement that is accepted in a state at a moment
abbrev pub IsRefused : List ℕ → ℕ → State → Type 0
IsRefused text moment s = (stmt : Stmt) → IsAnswer text stmt → IsNotAccepted stmt moment s

-- the entry of an item's text makes a state of a state
pub record TakesText (text : List ℕ) (i : LogItem) (s t : State) : Type 0 where
  pub entry : Entry
  pub is_entry : IsItemEntry text i s entry
  pub state : t ≡ step (s ∷ []) entry

-- the text of an item of a log is refused, at the place that is named
abbrev pub TextRefuses : ℕ → ℕ → List ℕ → LogItem → State → OpenCause → Type 0
TextRefuses n at text i s (causes.NotThisStore file place) =
    (file ≡ files.Log n) × (place ≡ at) × IsRefused text i.moment s
TextRefuses n at text i s causes.StoreFault = ⊥
TextRefuses n at text i s causes.NoMemory = Unit {0}

-- the item behind a gate of a log can't come next in a state, at the place that is named
abbrev pub ItemRefuses : ℕ → ℕ → LogItem → State → OpenCause → Type 0
ItemRefuses n gate i s (causes.NotThisStore file at) = (file ≡ files.Log n) × CannotFollow gate i s at
ItemRefuses n gate i s causes.StoreFault = ⊥
ItemRefuses n gate i s causes.NoMemory = Unit {0}

-- ---- one log

-- one of the items of a log can't come next, at the place that is named
abbrev pub ItemsRefuse : ℕ → List LogItem → State → OpenCause → Type 0
ItemsRefuse n items s (causes.NotThisStore file at) = (file ≡ files.Log n) × Refuses s items at
ItemsRefuse n items s causes.StoreFault = ⊥
ItemsRefuse n items s causes.NoMemory = Unit {0}

-- The bytes are a log of these items from a version on, whose closed gate stands at this place. A log that isn't there
-- has no item, and its gate will stand at its first byte.
abbrev pub EndsAt : ℕ → Option (List ℕ) → List LogItem → ℕ → Type 0
EndsAt first None items gate = (items ≡ []) × (gate ≡ 0)
EndsAt first (Some bytes) items gate = LogAt first items gate bytes

-- the items of a log, whose closed gate stands at this place, make a state of a state
pub record MakesOf (bytes : Option (List ℕ)) (gate : ℕ) (s t : State) : Type 0 where
  pub items : List LogItem
  pub ends : EndsAt (s.version + 1) bytes items gate
  pub replays : Replays s items t

-- the bytes of a log that is there break off what a state may become
abbrev pub BytesBreakOff : ℕ → State → Option (List ℕ) → ℕ → Type 0
BytesBreakOff first s None at = ⊥
BytesBreakOff first s (Some bytes) at = BreaksOff first s bytes at

-- the bytes of a log break off, at the place that is named
abbrev pub LogRefuses : ℕ → Option (List ℕ) → State → OpenCause → Type 0
LogRefuses n bytes s (causes.NotThisStore file at) = (file ≡ files.Log n) × BytesBreakOff (s.version + 1) s bytes at
LogRefuses n bytes s causes.StoreFault = ⊥
LogRefuses n bytes s causes.NoMemory = Unit {0}

-- ---- both logs

-- the log that is written: the second, where items of it have raised the version, else the first
abbrev pub active_of : LogBytes → (older front first_gate second_gate : ℕ) → ActiveLog
active_of logs older front first_gate second_gate =
    if nat_lt older front
    then record { number = FIRST_LOG + 1; first = older + 1; gate = second_gate; is_made = true }
    else record { number = FIRST_LOG; first = 1; gate = first_gate; is_made = is_some logs.first }

-- the items of the first log, and then those of the second, make a state of the empty state; and this log is written
pub record MakesState (logs : LogBytes) (s : State) (active : ActiveLog) : Type 0 where
  pub between : State
  pub first_gate : ℕ
  pub second_gate : ℕ
  pub first : MakesOf logs.first first_gate empty_state between
  pub in_order : between.version ≡ 0 → HasOpenGateFirst logs.second → ⊥
  pub second : MakesOf logs.second second_gate between s
  pub active_is : active ≡ active_of logs between.version s.version first_gate second_gate

-- every image of these logs breaks first at the place that is named
abbrev pub LogsRefuse : LogBytes → OpenCause → Type 0
LogsRefuse logs (causes.NotThisStore file at) = (image : Image) → HoldsLogs logs image → BreaksFirst image file at
LogsRefuse logs causes.StoreFault = ⊥
LogsRefuse logs causes.NoMemory = Unit {0}

-- ---- what is left of the store

-- two images stand for the same states
abbrev pub StandAlike : Image → Image → Type 0
StandAlike old new = (s : State) → (Stands old s → Stands new s) × (Stands new s → Stands old s)

-- All that opening changes: which of the logs up to the second are there, how much of them is stable, and whether a
-- crash may leave them. The image stands for the same states.
pub record Tidies (old new : Image) : Type 0 where
  pub rest : new ≡ record old {
    logs = new.logs;
    doubt = record old.doubt { fresh = new.doubt.fresh; gone = new.doubt.gone };
  }
  pub others : (n : ℕ) → FIRST_LOG + 1 < n → new.logs n ≡ old.logs n
  pub alike : StandAlike old new

-- a log that isn't there has no item, nor has one with a closed gate at its first byte
abbrev pub IsEmptyLog : Option Log → Type 0
IsEmptyLog None = Unit {0}
IsEmptyLog (Some log) = (gate : ℕ) × (rest : List ℕ) × (gate ≢ 1) × (log.bytes ≡ gate ∷ rest)

-- the first two logs, where they are there, are made stable
abbrev pub synced : Image → Image
synced image = with_log (FIRST_LOG + 1) after_sync (with_log FIRST_LOG after_sync image)

-- whether the second log is to go: it is there, and the first one is written
abbrev pub drops_second : LogBytes → ActiveLog → Bool
drops_second logs active = is_some logs.second && (active.number == FIRST_LOG)

-- the log before the first one is taken away, and the second one too, where it is to go
abbrev pub dropped : Bool → Image → Image
dropped false image = after_log_drop 0 image
dropped true image = after_log_drop (FIRST_LOG + 1) (after_log_drop 0 image)

-- The first two logs are stable, the log before them is gone, and so is the second one unless it is the one that is
-- written.
abbrev pub Settles : LogPlace → Image → Image → Type 0
Settles place old new =
    ((place.number ≡ FIRST_LOG + 1) × (new ≡ dropped false (synced old)))
    ⊎ ((place.number ≡ FIRST_LOG) × (new ≡ dropped (is_some (old.logs (FIRST_LOG + 1))) (synced old)))
