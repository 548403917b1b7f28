-- What an append makes of a log, and what a crash may leave of it.
use Rattle.std.specs.Prelude.{◌≡◌, ◌⊎◌, ℕ, ◌+◌, ◌≤◌, true, List, [], ◌∷◌, ◌++◌, length, Option, Some, None, IfSome, Result, OnOk, IsErrOf}
use Rattle.td_outside.specs.Image.{Log, Image, Along, Becomes, put}
use Rattle.td_outside.specs.Logs.{HasLog, with_log, after_write, after_sync}
use Rattle.td_outside.specs.Crash.{IsLeft}
use Rattle.td_outside.specs.Causes.{Rose}
use Rattle.td_outside.specs.declared.faults.IoFault.{IoFault}
use Rattle.td_outside.specs.declared.faults.IoFault.TheVariants as io
use Rattle.td_model.specs.declared.windows.Delta.{Delta}
use Rattle.td_codec.specs.Values.{win_key_list, win_row_list}
use Rattle.td_wal.specs.declared.appending.WalFault.{WalFault}
use Rattle.td_wal.specs.declared.appending.WalFault.TheVariants as faults
use Rattle.td_wal.specs.declared.item.LogItem.{LogItem}
use Rattle.td_wal.specs.Items.{item, item_bytes}
use Rattle.td_wal.specs.Log.{LogAt, items_fit}

-- ---- a log with its gate

-- the first closed gate of a log stands at this place
abbrev pub HasClosedGate : ℕ → List ℕ → Type 0
HasClosedGate at bytes = (first : ℕ) × (items : List LogItem) × LogAt first items at bytes

-- all of a log is stable
pub record IsStable (log : Log) : Type 0 where
  pub synced : log.unsynced ≡ None
  pub whole : log.stable ≡ length log.bytes

-- a log of these items with its closed gate at this place, all of it stable
pub record IsSettled (first : ℕ) (items : List LogItem) (at : ℕ) (log : Log) : Type 0 where
  pub log_at : LogAt first items at log.bytes
  pub stable : IsStable log

-- ---- an item that is appended

-- an item keeps the rules that its own bytes can show: its version isn't 0, and it fits behind none
pub record IsWritable (i : LogItem) : Type 0 where
  pub version : 1 ≤ i.version
  pub fits : (item i.version 0).fits i ≡ true

-- the item has the version and the moment of the next item of such a log
abbrev pub Continues : ℕ → List LogItem → LogItem → Type 0
Continues first items i = items_fit first 0 (items ++ i ∷ []) ≡ true

-- an item and a closed gate behind it
abbrev pub record_bytes : LogItem → List ℕ
record_bytes i = item_bytes i ++ 0 ∷ []

-- the place of the gate behind an item whose gate stands at this place
abbrev pub next_gate : ℕ → LogItem → ℕ
next_gate at i = at + 1 + length (item_bytes i)

-- a log with an item appended: from the place of the gate on there stand an open gate, the item and a closed gate, over
-- what was there, and all of it is stable
abbrev pub appended : ℕ → LogItem → Log → Log
appended at i log = after_sync (after_write at (1 ∷ record_bytes i) log)

-- the windows of a step can be written
abbrev pub step_fits : Delta → Type 0
step_fits delta = (win_key_list.fits delta.removed ≡ true) × (win_row_list.fits delta.added ≡ true)

-- ---- what an append leaves

-- the log of a number is there and this is true of it, where the store tells its image
abbrev pub LogSays : Option Image → ℕ → (Log → Type 0) → Type 0
LogSays told n P = IfSome told (HasLog n P)

-- the log of a number is there, and all but it is as it was
abbrev pub OnlyLog : ℕ → Image → Image → Type 0
OnlyLog n old new = (log : Log) × (new ≡ record old { logs = put n (Some log) old.logs })

-- a log of these items, or of these and one more
abbrev pub IsEither : ℕ → List LogItem → ℕ → LogItem → List ℕ → Type 0
IsEither first items at i bytes = LogAt first items at bytes ⊎ LogAt first (items ++ i ∷ []) (next_gate at i) bytes

-- whatever a crash leaves of the log is a log of these items, or of these and one more
abbrev pub LeavesEither : ℕ → List LogItem → ℕ → LogItem → Log → Type 0
LeavesEither first items at i log = (bytes : List ℕ) → IsLeft log bytes → IsEither first items at i bytes

-- the same of a log that is stable, as after a crash
abbrev pub SettlesEither : ℕ → List LogItem → ℕ → LogItem → Log → Type 0
SettlesEither first items at i log =
    IsSettled first items at log ⊎ IsSettled first (items ++ i ∷ []) (next_gate at i) log

-- An item was appended to the log of a number, whose closed gate stood at this place. If the item continues the log,
-- the log now has it at its end, and all of it is stable.
pub record Appends (n at : ℕ) (i : LogItem) (old new : Option Image) : Type 0 where
  pub image : Becomes (with_log n (appended at i)) old new
  pub log : (first : ℕ) (items : List LogItem) → Continues first items i
      → LogSays old n (λ log. LogAt first items at log.bytes)
      → LogSays new n (IsSettled first (items ++ i ∷ []) (next_gate at i))

-- An append of an item to the log of a number failed, whose closed gate stood at this place. If the item continues the
-- log, a read now gives the log of its items, or of these and the item; and where all of it was stable, a crash leaves
-- one of these two.
pub record Fails (n at : ℕ) (i : LogItem) (old new : Option Image) : Type 0 where
  pub rest : Along (OnlyLog n) old new
  pub read : (first : ℕ) (items : List LogItem) → Continues first items i
      → LogSays old n (λ log. LogAt first items at log.bytes)
      → LogSays new n (λ log. IsEither first items at i log.bytes)
  pub crash : (first : ℕ) (items : List LogItem) → Continues first items i → LogSays old n (IsSettled first items at)
      → LogSays new n (LeavesEither first items at i)

-- ---- causes

-- the cause of an item that was not added, from that of the call on the store
abbrev pub wal_fault : IoFault → WalFault
wal_fault io.Failed = faults.StoreFault
wal_fault io.NoMemory = faults.NoMemory

-- The count of faults never falls; StoreFault comes only where it rose, and otherwise it stays.
pub record HasWalCause {T : Type 0} (before now : ℕ) (result : Result T WalFault) : Type 0 where
  pub later : before ≤ now
  pub failed : IsErrOf result faults.StoreFault → Rose before now
  pub no_memory : IsErrOf result faults.NoMemory → now ≡ before
  pub kept : OnOk result (now ≡ before)
