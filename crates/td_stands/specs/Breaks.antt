-- Where the image of a store first breaks the form of one that stands for a state.
use Rattle.std.specs.Prelude.{◌≡◌, ◌≢◌, ◌⊎◌, ℕ, ◌+◌, ◌<◌, List, [], ◌∷◌, ◌++◌, length, take, slice_get, All, Option, Some, None}
use Rattle.td_limits.specs.declared.limits.TheConstants.{MEMTABLE_PARTS}
use Rattle.td_model.specs.State.{State}
use Rattle.td_memtable.specs.Contents.{Contents, nothing_held}
use Rattle.td_outside.specs.Image.{Log, Image}
use Rattle.td_outside.specs.Files.{IsFinished}
use Rattle.td_manifest.specs.declared.head.Head.{Head}
use Rattle.td_manifest.specs.Files.{all_files}
use Rattle.td_manifest.specs.Heads as heads
use Rattle.td_manifest.specs.Heads.{IsHead}
use Rattle.td_manifest.specs.Places.{file_place, stream_place}
use Rattle.td_wal.specs.declared.item.LogItem.{LogItem}
use Rattle.td_wal.specs.Log.{IsLog, BreaksAt, opened}
use Rattle.td_levels.specs.Taken.{parts_of}
use Rattle.td_stands.specs.declared.file_id.FileId.{FileId}
use Rattle.td_stands.specs.declared.file_id.FileId.TheVariants as files
use Rattle.td_stands.specs.Heads.{HeadIs, state_of_head}
use Rattle.td_stands.specs.Replay.{IsNext, Replays}
use Rattle.td_stands.specs.Stands.{HasItems}

-- ---- logs

-- the place of an item's moment, and that of its body, behind a gate at a place
abbrev pub moment_place : ℕ → ℕ
moment_place gate = gate + 13

abbrev pub body_place : ℕ → ℕ
body_place gate = gate + 30

-- An item behind a gate can't come next in a state, over a memtable: its moment is before the state's, which is at its
-- moment's place; or its text isn't accepted there, or its parts are too many, which is at its body's place.
abbrev pub CannotFollow : ℕ → LogItem → State → Contents → ℕ → Type 0
CannotFollow gate i s m at =
    ((i.moment < s.moment) × (at ≡ moment_place gate))
    ⊎ (((i.moment < s.moment) → ⊥) × ((t : State) → IsNext i s t → ⊥) × (at ≡ body_place gate))
    ⊎ ((t : State) × (next : IsNext i s t) × (MEMTABLE_PARTS < m.held + parts_of next.what) × (at ≡ body_place gate))

-- the first items are whole and come one after another from a state and an empty memtable on; the next one, which is
-- whole too, can't follow
pub record Refuses (s : State) (items : List LogItem) (at : ℕ) : Type 0 where
  pub before : List LogItem
  pub next : LogItem
  pub after : List LogItem
  pub then : State
  pub held : Contents
  pub items_are : items ≡ before ++ next ∷ after
  pub replays : Replays s nothing_held before then held
  pub cannot : CannotFollow (length (opened before)) next then held at

-- These are the whole items of bytes from a version on: the bytes are a log of them, or break its form behind them.
abbrev pub AreWhole : ℕ → List ℕ → List LogItem → Type 0
AreWhole first bytes items = IsLog first bytes items ⊎ ((end : ℕ) × BreaksAt first bytes items end)

-- Where the bytes of a log from a version on first break off what a state may become: at an item that can't follow, or,
-- where all whole items follow, at a field of no log.
abbrev pub BreaksOff : ℕ → State → List ℕ → ℕ → Type 0
BreaksOff first s bytes at =
    ((items : List LogItem) × AreWhole first bytes items × Refuses s items at)
    ⊎ ((items : List LogItem) × (t : State) × (m : Contents) × Replays s nothing_held items t m
    × BreaksAt first bytes items at)

-- a log that is there breaks off
abbrev pub LogBreaksOff : ℕ → State → Option Log → ℕ → Type 0
LogBreaksOff first s None at = ⊥
LogBreaksOff first s (Some log) at = BreaksOff first s log.bytes at

-- a log that is there has an open gate at its first byte
abbrev pub HasOpenGate : Option Log → Type 0
HasOpenGate None = ⊥
HasOpenGate (Some log) = (rest : List ℕ) × (log.bytes ≡ 1 ∷ rest)

-- Where the second log breaks behind a first one of these items, which make a state: it may have items only where the
-- first has.
abbrev pub SecondBreaks : List LogItem → State → Option Log → ℕ → Type 0
SecondBreaks older s log at =
    ((older ≡ []) × HasOpenGate log × (at ≡ 0))
    ⊎ (((older ≢ []) ⊎ (HasOpenGate log → ⊥)) × LogBreaksOff (s.version + 1) s log at)

-- ---- the head

-- a file that isn't finished is the first such of those that a head names
pub record FirstMissing (image : Image) (names : List ℕ) (i : ℕ) : Type 0 where
  pub name : ℕ
  pub there : slice_get names i ≡ Some name
  pub missing : image.files name ≡ None
  pub before : All (λ (n : ℕ). IsFinished n image) (take i names)

-- Where a head of its form first says what the store doesn't hold: at the number of a file that isn't finished; or, where
-- all are, at the text of its first stream, since no stream is built so far.
abbrev pub HeadRefuses : Image → Head → ℕ → Type 0
HeadRefuses image h at =
    ((i : ℕ) × FirstMissing image (all_files h.sets) i × (at ≡ file_place h i))
    ⊎ (All (λ (n : ℕ). IsFinished n image) (all_files h.sets) × (h.streams ≢ []) × (at ≡ stream_place h))

-- where a head that is there first breaks: in its form, or at what the store doesn't hold
abbrev pub HeadBreaks : Image → Option (List ℕ) → ℕ → Type 0
HeadBreaks image None at = ⊥
HeadBreaks image (Some bytes) at =
    heads.BreaksAt bytes at ⊎ ((h : Head) × IsHead bytes h × HeadRefuses image h at)

-- a head that breaks nowhere
pub record HeadStands (image : Image) (h : Head) : Type 0 where
  pub head : HeadIs image.head h
  pub finished : All (λ (n : ℕ). IsFinished n image) (all_files h.sets)
  pub no_streams : h.streams ≡ []

-- ---- the image

-- The first place at which an image breaks: in its head; in its first log; or, where that is whole, in the second. No
-- file is read for this, and no rows have a part in it.
abbrev pub BreaksFirst : Image → FileId → ℕ → Type 0
BreaksFirst image files.Head at = HeadBreaks image image.head at
BreaksFirst image (files.Log n) at =
    (h : Head) × HeadStands image h
    × (((n ≡ h.first_log) × LogBreaksOff (h.version + 1) (state_of_head h []) (image.logs h.first_log) at)
    ⊎ ((n ≡ h.first_log + 1) × (older : List LogItem) × (s : State) × (m : Contents)
    × HasItems (h.version + 1) older (image.logs h.first_log)
    × Replays (state_of_head h []) nothing_held older s m
    × SecondBreaks older s (image.logs (h.first_log + 1)) at))
BreaksFirst image (files.File n) at = ⊥
