-- What a core says of a base and a history, a predicate for each point. The base b is the state that was opened, and
-- the history has the entries since then.
use Rattle.std.specs.Prelude.{◌≡◌, ◌⊎◌, ℕ, zero, suc, ◌+◌, ◌≤◌, max, All, List, [], ◌∷◌, ◌++◌, length, Option, Some, None, IfSome}
use Rattle.td_limits.specs.declared.limits.TheConstants.{MEMTABLE_PARTS, SESSIONS}
use Rattle.td_memtable.specs.Contents.{Contents}
use Rattle.td_model.specs.declared.history.What.{What}
use Rattle.td_model.specs.declared.history.What.TheVariants as what
use Rattle.td_model.specs.declared.history.Entry.{Entry}
use Rattle.td_model.specs.declared.history.Verdict.TheVariants.{Accept}
use Rattle.td_model.specs.declared.language.Stmt.{Stmt}
use Rattle.td_model.specs.declared.report.Mark.{Mark}
use Rattle.td_model.specs.declared.report.Mark.TheVariants as mark
use Rattle.td_model.specs.declared.report.JournalLine.{JournalLine}
use Rattle.td_model.specs.State.{State, newest, step, after}
use Rattle.td_outside.specs.Image.{Image}
use Rattle.td_told.specs.Journal.{halt_at}
use Rattle.td_told.specs.Times.{WereTaken, Timed, reading, without_halts}
use Rattle.td_told.specs.Verdict.{verdict}
use Rattle.td_stands.specs.Stands.{Stands}
use Rattle.td_levels.specs.Laws.{HoldRows}
use Rattle.td_levels.specs.Levels.{memtables_of}
use Rattle.td_state.specs.Facts.{facts}
use Rattle.td_engine.specs.CoreState.{CoreState}

-- ---- the state but for its rows

-- version, moment, catalog, greatest timestamps, edge and halt are those of the state after the history
abbrev pub FactsAre : CoreState → State → List Entry → Type 0
FactsAre c b h = facts c.state ≡ facts (after b h)

-- ---- the rows

-- the levels hold the rows of the state after the history, where the store tells what its files hold
abbrev pub RowsAre : CoreState → State → List Entry → Type 0
RowsAre c b h = IfSome c.told (λ image. HoldRows image.files (after b h) c.levels)

-- ---- the memtables

-- no memtable holds more parts than it may
abbrev pub HeldIs : CoreState → Type 0
HeldIs c = All (λ (m : Contents). m.held ≤ MEMTABLE_PARTS) (memtables_of c.levels)

-- ---- pins

-- the store's open readers of each file are those that are pinned
abbrev pub PinsAre : CoreState → Type 0
PinsAre c = IfSome c.told (λ image. (n : ℕ) → image.readers n ≡ c.pins n)

-- ---- the journal

-- no entry is a step so far
abbrev pub mark_of : What → Mark
mark_of what.Halt = mark.Halt
mark_of w = mark.Plain

-- the line of an entry after a version
abbrev pub line_of : ℕ → Entry → JournalLine
line_of version e =
    record { version = version + 1; session = e.session; ordinal = e.ordinal; moment = e.moment; mark = mark_of e.what }

-- the lines of a history after a version
abbrev pub lines : ℕ → List Entry → List JournalLine
lines version [] = []
lines version (e ∷ h) = line_of version e ∷ lines (version + 1) h

pub record JournalIs (c : CoreState) (b : State) (h : List Entry) : Type 0 where
  pub base : c.base ≡ b.version
  pub lines_are : c.journal ≡ lines b.version h

-- ---- the image of the store

-- the entry of a halt is the last; before it the store had an entry in hand
pub record HaltedAt (image : Image) (b : State) (h : List Entry) : Type 0 where
  pub before : List Entry
  pub halt : Entry
  pub is_halt : halt.what ≡ what.Halt
  pub ends : h ≡ before ++ halt ∷ []
  pub tried : Entry
  pub stands : Stands image (after b before) ⊎ Stands image (after b (before ++ tried ∷ []))

-- The image, where it is told, stands for the state after the history. After a halt it stands for the state before it,
-- or for that state with the entry that was tried.
abbrev pub ImageIsBy : Option ℕ → Image → State → List Entry → Type 0
ImageIsBy None image b h = Stands image (after b h)
ImageIsBy (Some halt) image b h = HaltedAt image b h

abbrev pub ImageIs : CoreState → State → List Entry → Type 0
ImageIs c b h = IfSome c.told (λ image. ImageIsBy c.state.halt image b h)

-- ---- moments

-- no later entry has a moment before the floor
abbrev pub FloorIs : CoreState → State → List Entry → Type 0
FloorIs c b h = (after b h).moment ≤ c.floor

-- the greatest of a moment and so many readings
abbrev pub greatest : ℕ → List ℕ → ℕ → ℕ
greatest least readings zero = least
greatest least readings (suc n) = max (greatest least readings n) (reading readings n)

-- So many readings were taken of those that the clock had, at least one for each entry that isn't a halt, and the
-- floor is the greatest of them and of b's moment. The moments of the entries are timed by them.
pub record ClockIs (opened : Option (List ℕ)) (c : CoreState) (b : State) (h : List Entry) : Type 0 where
  pub taken : ℕ
  pub were_taken : WereTaken opened taken c.readings
  pub enough : length (without_halts h) ≤ taken
  pub floor : IfSome opened (λ readings. c.floor ≡ greatest b.moment readings taken)
  pub timed : Timed opened b.moment h

-- all points; `opened` are the readings that the clock had when the core was opened
pub record Covers (opened : Option (List ℕ)) (c : CoreState) (b : State) (h : List Entry) : Type 0 where
  pub facts : FactsAre c b h
  pub rows : RowsAre c b h
  pub held : HeldIs c
  pub pins : PinsAre c
  pub journal : JournalIs c b h
  pub image : ImageIs c b h
  pub floor : FloorIs c b h
  pub clock : ClockIs opened c b h

-- ---- legal histories

-- The entry of a statement is what the verdict accepts in the state before it, at its moment, and is of a session.
pub record IsEntryOf (q : Stmt) (s : State) (e : Entry) : Type 0 where
  pub rows : ℕ
  pub accepted : verdict q s [] e.moment ≡ Accept e.what rows
  pub from_one : 1 ≤ e.session
  pub session : e.session ≤ SESSIONS

-- What is asked of an entry in the state before it, with the entries after it: that it is its statement's; or, where
-- it has none, that it is a halt, which is of no session and the last. No stream takes a step so far.
abbrev pub MayStand : Option Stmt → State → Entry → List Entry → Type 0
MayStand (Some q) s e later = IsEntryOf q s e
MayStand None s e later = (e ≡ halt_at e.moment) × (later ≡ [])

-- the entries after the states so far, each with its statement: moments don't fall, and each may stand there
abbrev pub AreLegal : List State → List Entry → List (Option Stmt) → Type 0
AreLegal past [] [] = Unit {0}
AreLegal past (e ∷ h) (q ∷ asked) =
    ((newest past).moment ≤ e.moment) × MayStand q (newest past) e h × AreLegal (step past e ∷ past) h asked
AreLegal past [] (q ∷ asked) = ⊥
AreLegal past (e ∷ h) [] = ⊥

-- a history from a state on, with what was asked: a statement for each entry, and none for a halt
abbrev pub Legal : State → List Entry → List (Option Stmt) → Type 0
Legal b h asked = AreLegal (b ∷ []) h asked
