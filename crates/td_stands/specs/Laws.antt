-- What is true of each image of a store.
use Rattle.std.specs.Prelude.{◌≡◌, ℕ, List, ◌++◌, None}
use Rattle.td_model.specs.State.{State, Rows, empty_state}
use Rattle.td_memtable.specs.Contents.{Contents}
use Rattle.td_outside.specs.Image.{Image}
use Rattle.td_wal.specs.declared.item.LogItem.{LogItem}
use Rattle.td_stands.specs.declared.file_id.FileId.{FileId}
use Rattle.td_stands.specs.Replay.{Replays}
use Rattle.td_stands.specs.Stands.{Stands}
use Rattle.td_stands.specs.Breaks.{BreaksFirst}

-- A store with neither a head nor logs stands for the empty state.
abbrev pub EmptyStoreStands : Type 0
EmptyStoreStands = (image : Image) → image.head ≡ None → ((n : ℕ) → image.logs n ≡ None) → Stands image empty_state

-- an image stands for one state at most
abbrev pub OneState : Type 0
OneState = (image : Image) (a b : State) → Stands image a → Stands image b → a ≡ b

-- an image breaks first at one place at most
abbrev pub OnePlace : Type 0
OnePlace = (image : Image) (file other : FileId) (a b : ℕ) → BreaksFirst image file a → BreaksFirst image other b
    → (file ≡ other) × (a ≡ b)

-- an image that stands for a state breaks nowhere
abbrev pub StandsOrBreaks : Type 0
StandsOrBreaks = (image : Image) (s : State) (file : FileId) (at : ℕ) → Stands image s → BreaksFirst image file at → ⊥

-- a state with other rows
abbrev pub with_rows : Rows → State → State
with_rows rows s = record s { rows = rows }

-- What items make of a state, but for its rows, and of a memtable hangs on no row.
abbrev pub RowsHaveNoPart : Type 0
RowsHaveNoPart = (s t : State) (m n : Contents) (items : List LogItem) (rows : Rows) → Replays s m items t n
    → (after : Rows) × Replays (with_rows rows s) m items (with_rows after t) n

-- what items make is one state and one memtable
abbrev pub ReplaysAreOne : Type 0
ReplaysAreOne = (s t u : State) (l m n : Contents) (items : List LogItem) → Replays s l items t m
    → Replays s l items u n → (t ≡ u) × (m ≡ n)

-- items may be replayed in two goes
abbrev pub ReplaysFollow : Type 0
ReplaysFollow = (s t u : State) (l m n : Contents) (before after : List LogItem) → Replays s l before t m
    → Replays t m after u n → Replays s l (before ++ after) u n
