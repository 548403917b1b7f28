-- When the image of a store stands for a state, by its head and by the log that is written.
use Rattle.std.specs.Prelude.{◌≡◌, ◌≢◌, ◌⊎◌, ℕ, ◌+◌, Bool, true, false, List, [], ◌∷◌, map, length, Option, Some, None}
use Rattle.td_model.specs.State.{State}
use Rattle.td_outside.specs.Image.{Log, Image}
use Rattle.td_manifest.specs.declared.head.Head.{Head}
use Rattle.td_manifest.specs.Heads.{head_body}
use Rattle.td_memtable.specs.Contents.{Contents, nothing_held}
use Rattle.td_verdict.specs.Valid.{IsValid}
use Rattle.td_wal.specs.declared.item.LogItem.{LogItem}
use Rattle.td_wal.specs.Append.{IsSettled}
use Rattle.td_levels.specs.Levels.{Levels}
use Rattle.td_stands.specs.Heads.{catalog_of, state_of_head, set_files}
use Rattle.td_stands.specs.Replay.{Replays}
use Rattle.td_stands.specs.Stands.{HasItems}
use Rattle.td_stands.specs.Breaks.{HeadStands}
use Rattle.td_state.specs.Held.{bare}
use Rattle.td_active.specs.declared.active_log.ActiveLog.{ActiveLog}

-- A log that wasn't made has no item, and its gate will stand at its first byte. One that was made is there with these
-- items, its closed gate stands at this place, and all of it is stable.
abbrev pub AtGate : ℕ → List LogItem → ℕ → Bool → Option Log → Type 0
AtGate first items gate false log = (items ≡ []) × (gate ≡ 0)
AtGate first items gate true None = ⊥
AtGate first items gate true (Some log) = IsSettled first items gate log

-- The log of this number is written, behind the items of the log before it: it is the head's first log; or it is the
-- second, and the first has items.
abbrev pub IsWritten : Image → Head → ℕ → List LogItem → Type 0
IsWritten image head number older =
    ((number ≡ head.first_log) × (older ≡ []))
    ⊎ ((number ≡ head.first_log + 1) × (older ≢ [])
    × HasItems (head.version + 1) older (image.logs head.first_log))

-- Beside a frozen memtable stands the head of the state after its last entry, without file sets, which names the next
-- log as its first.
pub record Seals (sealed : Head) (log : ℕ) (s : State) : Type 0 where
  pub state : state_of_head sealed [] ≡ bare s
  pub first_log : sealed.first_log ≡ log + 1
  pub no_sets : sealed.sets ≡ []
  pub no_streams : sealed.streams ≡ []
  pub fits : head_body.fits sealed ≡ true

-- The frozen memtable is what the items of the first log make of an empty one; where they are none, nothing is frozen.
abbrev pub FrozenIs : List LogItem → Contents → State → ℕ → Option Contents → Option Head → Type 0
FrozenIs [] m s log frozen sealed = (frozen ≡ None) × (sealed ≡ None)
FrozenIs (i ∷ is) m s log frozen sealed = (frozen ≡ Some m) × (it : Head) × (sealed ≡ Some it) × Seals it log s

-- The image of a store stands for a state, but for its rows, by its head and by the log that is written. The items of
-- the first log, where another is written, made the frozen memtable, and those of the one that is written made the
-- active one. The log before the first one isn't there. The image may have a log above the second, of which nothing is
-- known; it then stands for no state.
pub record IsActive
    (image : Image) (place : ActiveLog) (s : State) (l : Levels) (committed : ℕ) (sealed : Option Head)
    : Type 0 where
  pub head : Head
  pub head_stands : HeadStands image head
  pub valid : IsValid (catalog_of head)
  pub version : head.version ≡ committed
  pub sets : l.sets ≡ map set_files head.sets
  pub dropped : (n : ℕ) → n + 1 ≡ head.first_log → image.logs n ≡ None
  pub older : List LogItem
  pub own : List LogItem
  pub which : IsWritten image head place.number older
  pub first : place.first ≡ committed + 1 + length older
  pub log : AtGate place.first own place.gate place.is_made (image.logs place.number)
  pub between : State
  pub frozen : Contents
  pub makes_frozen : Replays (state_of_head head []) nothing_held older between frozen
  pub after : State
  pub makes_active : Replays between nothing_held own after l.active
  pub state_is : bare after ≡ s
  pub frozen_is : FrozenIs older frozen between head.first_log l.frozen sealed
