-- Where the image of a store first breaks the form of one that stands for a state.
use Rattle.std.specs.Prelude.{◌≡◌, ◌≢◌, ◌⊎◌, ℕ, ◌+◌, ◌<◌, List, [], ◌∷◌, ◌++◌, length, Option, Some, None}
use Rattle.td_model.specs.State.{State, empty_state}
use Rattle.td_outside.specs.Image.{Log, Image}
use Rattle.td_wal.specs.declared.item.LogItem.{LogItem}
use Rattle.td_wal.specs.Log.{IsLog, BreaksAt, opened}
use Rattle.td_core.specs.declared.causes.FileId.{FileId}
use Rattle.td_core.specs.declared.causes.FileId.TheVariants as files
use Rattle.td_core.specs.Replay.{IsNext, Replays}
use Rattle.td_core.specs.Stands.{FIRST_LOG, HasItems}

-- the place of an item's moment, and that of its body, behind a gate at a place
abbrev pub moment_place : ℕ → ℕ
moment_place gate = gate + 13

abbrev pub body_place : ℕ → ℕ
body_place gate = gate + 30

-- An item behind a gate can't come next in a state: its moment is before the state's, which is at its moment's place;
-- or its text isn't accepted there, which is at its body's place.
abbrev pub CannotFollow : ℕ → LogItem → State → ℕ → Type 0
CannotFollow gate i s at =
    ((i.moment < s.moment) × (at ≡ moment_place gate))
    ⊎ (((i.moment < s.moment) → ⊥) × ((t : State) → IsNext i s t → ⊥) × (at ≡ body_place gate))

-- the first items are whole and come one after another from a state on; the next one, which is whole too, can't follow
pub record Refuses (s : State) (items : List LogItem) (at : ℕ) : Type 0 where
  pub before : List LogItem
  pub next : LogItem
  pub after : List LogItem
  pub then : State
  pub items_are : items ≡ before ++ next ∷ after
  pub replays : Replays s before then
  pub cannot : CannotFollow (length (opened before)) next then at

-- These are the whole items of bytes from a version on: the bytes are a log of them, or break its form behind them.
abbrev pub AreWhole : ℕ → List ℕ → List LogItem → Type 0
AreWhole first bytes items = IsLog first bytes items ⊎ ((end : ℕ) × BreaksAt first bytes items end)

-- Where the bytes of a log from a version on first break off what a state may become: at an item that can't follow, or,
-- where all whole items follow, at a field of no log.
abbrev pub BreaksOff : ℕ → State → List ℕ → ℕ → Type 0
BreaksOff first s bytes at =
    ((items : List LogItem) × AreWhole first bytes items × Refuses s items at)
    ⊎ ((items : List LogItem) × (t : State) × Replays s items t × BreaksAt first bytes items at)

-- a log that is there breaks off
abbrev pub LogBreaksOff : ℕ → State → Option Log → ℕ → Type 0
LogBreaksOff first s None at = ⊥
LogBreaksOff first s (Some log) at = BreaksOff first s log.bytes at

-- a log that is there has an open gate at its first byte
abbrev pub HasOpenGate : Option Log → Type 0
HasOpenGate None = ⊥
HasOpenGate (Some log) = (rest : List ℕ) × (log.bytes ≡ 1 ∷ rest)

-- Where the second log breaks behind a first one of these items, which make a state: it may have items only where the
-- first has.
abbrev pub SecondBreaks : List LogItem → State → Option Log → ℕ → Type 0
SecondBreaks older s log at =
    ((older ≡ []) × HasOpenGate log × (at ≡ 0))
    ⊎ (((older ≢ []) ⊎ (HasOpenGate log → ⊥)) × LogBreaksOff (1 + length older) s log at)

-- The first place at which an image breaks: at its head, which no store has so far; in its first log; or, where that is
-- whole, in the second.
abbrev pub BreaksFirst : Image → FileId → ℕ → Type 0
BreaksFirst image files.Head at = (image.head ≢ None) × (at ≡ 0)
BreaksFirst image (files.Log n) at =
    (image.head ≡ None)
    × (((n ≡ FIRST_LOG) × LogBreaksOff 1 empty_state (image.logs FIRST_LOG) at)
    ⊎ ((n ≡ FIRST_LOG + 1) × (older : List LogItem) × (s : State) × HasItems 1 older (image.logs FIRST_LOG)
    × Replays empty_state older s × SecondBreaks older s (image.logs (FIRST_LOG + 1)) at))
BreaksFirst image (files.File n) at = ⊥
