-- What contracts see of a core.
use Rattle.std.specs.Prelude.{◌≡◌, ◌≢◌, ◌⊎◌, ℕ, ◌+◌, ◌≤◌, Bool, List, [], ◌++◌, length, Option, Some, None, IfSome, is_some}
use Rattle.td_limits.specs.declared.limits.TheConstants.{LAST_TIMESTAMP}
use Rattle.td_model.specs.declared.report.JournalLine.{JournalLine}
use Rattle.td_model.specs.State.{State, Rows, empty_state}
use Rattle.td_outside.specs.Image.{Log, Image}
use Rattle.td_wal.specs.declared.item.LogItem.{LogItem}
use Rattle.td_wal.specs.Append.{IsSettled}
use Rattle.td_core.specs.declared.kept.ActiveLog.{ActiveLog}
use Rattle.td_core.specs.Replay.{Replays}
use Rattle.td_core.specs.Stands.{FIRST_LOG, HasItems}

-- the log that is written: its number, the version of its first item, and the place of its closed gate
pub record LogPlace : Type 0 where
  pub number : ℕ
  pub first : ℕ
  pub gate : ℕ

-- the layers that hold rows, newest first; so far there is one, all rows
pub record Layers : Type 0 where
  pub rows : Rows

-- the rows that layers compose to, from an edge on
abbrev pub composed : ℕ → Layers → Rows
composed edge layers = layers.rows

-- What contracts see of a core.
pub record CoreState : Type 0 where
  -- the state but for its rows, which the layers compose to
  pub state : State
  pub layers : Layers
  -- the version of the state that was opened
  pub base : ℕ
  -- the lines of the entries since then
  pub journal : List JournalLine
  -- the greatest moment that was given
  pub floor : ℕ
  pub log : LogPlace
  -- what the store tells, and how often it failed
  pub told : Option Image
  pub count : ℕ
  -- the readings that the clock has left
  pub readings : Option (List ℕ)

-- What a core keeps: its store and its clock as they are, the state, the journal, and the numbers from above.
pub record Kept (S C : Type 0) : Type 0 where
  pub store : S
  pub clock : C
  pub state : State
  pub journal : List JournalLine
  pub base : ℕ
  pub floor : ℕ
  pub log : LogPlace

-- a core, by what its store tells and counts, and by the readings that its clock has left
abbrev pub seen : {S C : Type 0} → (S → Option Image) → (S → ℕ) → (C → Option (List ℕ)) → Kept S C → CoreState
seen told count readings k =
    record {
      state = k.state;
      layers = record { rows = k.state.rows };
      base = k.base;
      journal = k.journal;
      floor = k.floor;
      log = k.log;
      told = told k.store;
      count = count k.store;
      readings = readings k.clock;
    }

abbrev pub log_place : ActiveLog → LogPlace
log_place log = record { number = log.number; first = log.first; gate = log.gate }

-- ---- the log that is written

-- A log that isn't there has no item, and its gate will stand at its first byte. One that is there has these items, its
-- closed gate stands at this place, and all of it is stable.
abbrev pub AtGate : ℕ → List LogItem → ℕ → Option Log → Type 0
AtGate first items gate None = (items ≡ []) × (gate ≡ 0)
AtGate first items gate (Some log) = IsSettled first items gate log

-- The log of this number is written, behind the items of the log before it. It is the first log, and none stands above
-- it; or it is the second, and the first has items.
abbrev pub IsWritten : Image → ℕ → List LogItem → Type 0
IsWritten image number older =
    ((number ≡ FIRST_LOG) × (older ≡ []) × (image.logs (FIRST_LOG + 1) ≡ None))
    ⊎ ((number ≡ FIRST_LOG + 1) × (older ≢ []) × HasItems 1 older (image.logs FIRST_LOG))

-- the image of a store whose log is written at a place, by which it stands for a state
pub record IsActive (image : Image) (place : LogPlace) (s : State) : Type 0 where
  pub head : image.head ≡ None
  pub older : List LogItem
  pub own : List LogItem
  pub which : IsWritten image place.number older
  pub first : place.first ≡ 1 + length older
  pub log : AtGate place.first own place.gate (image.logs place.number)
  pub replays : Replays empty_state (older ++ own) s

-- the log is there exactly where it was made
abbrev pub IsMade : LogPlace → Bool → Image → Type 0
IsMade place made image = is_some (image.logs place.number) ≡ made

-- What is true of every core: no moment was given before that of the state, nor beyond the last; and as long as nothing
-- halted, there is room for the line of a halt, and where the store tells its image, it stands for the state, by the
-- log that is written.
pub record IsKept (told : Option Image) (s : State) (place : LogPlace) (made : Bool) (floor spare : ℕ) : Type 0 where
  pub since : s.moment ≤ floor
  pub last : floor ≤ LAST_TIMESTAMP
  pub room : s.halt ≡ None → 1 ≤ spare
  pub active : s.halt ≡ None → IfSome told (λ image. IsActive image place s)
  pub there : s.halt ≡ None → IfSome told (IsMade place made)
